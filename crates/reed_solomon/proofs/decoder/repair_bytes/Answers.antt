use Rattle.std.proofs.Common.{◌≡◌, ℕ, T, List, Some, sym, ap, ◌∙◌, zero-le, arith}
use Rattle.bits.specs.Distance.{distance}
use Rattle.bits.proofs.Hamming.{distance_self}
use Rattle.rs_theory.specs.Code.{is_codeword}
use Rattle.rs_theory.proofs.Codewords.{nearest}
use Rattle.reed_solomon.proofs.decoder.repair_bytes.Goals as goal

pub returns-then-all_zero : goal.returns-then-all_zero
returns-then-all_zero c =
    let w : List ℕ = c.args.bytes.now in
    let t : T (is_codeword w) = c.residue-rest.ensures.codeword_at_zero c.if-all_zero.ensures in
    let none : distance w w ≡ 0 = distance_self w in
    record {
      right = (t, none, zero-le);
      found = λ code u near.
          let e : code ≡ w = nearest code w w u t c.told-bytes near (omega arith) in
          (ap Some (sym (ap (λ (v : List ℕ). distance v w) e ∙ none)), sym e);
    }
