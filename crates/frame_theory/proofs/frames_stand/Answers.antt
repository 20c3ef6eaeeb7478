-- From the promises of the two codes. Assumes nothing.
use Rattle.rs_theory.proofs.Encoding.{outer-code}
use Rattle.conv_theory.proofs.Hard.{nearest}
use Rattle.frame_theory.proofs.Frames.{frame_right}
use Rattle.frame_theory.proofs.frames_stand.Goals as goal

pub returns : goal.returns
returns c = frame_right outer-code nearest
