-- What a message makes of the side that heard it. Assumes nothing.
use Rattle.std.specs.Prelude.{◌&&◌, cond, ◌==◌, nat_le, nat_lt}
use Rattle.transfer_theory.specs.Parts.{parts}
use Rattle.transfer_theory.specs.Sender.{Sender, with_place, finished}
use Rattle.transfer_theory.specs.Receiver.{Receiver, receiver_of, with_length}
use Rattle.transfer.specs.Memory.{with_part}
use Rattle.transfer.specs.declared.message.Message.{Message}
use Rattle.transfer.specs.declared.message.Message.TheVariants.{Part, End, Ask, Done}

-- of the sender
abbrev pub heeds : Message → Sender → Sender
heeds (Ask f n) s = cond (f == s.file && nat_lt n (parts s.bytes)) (with_place n s) s
heeds (Done f) s = cond (f == s.file) (finished s) s
heeds m s = s

-- of the receiver
abbrev pub takes_in : Message → Receiver → Receiver
takes_in (Part f n b) v = cond (f == v.file) (receiver_of v.file (with_part n b.now v.slots) v.size) v
takes_in (End f m) v = cond (f == v.file && nat_le m 214000) (with_length m v) v
takes_in m v = v
