-- The bits that a line says are a frame's, so that hearing never refuses them. Assumes nothing.
use Rattle.std.proofs.Common.{◌≡◌, ℕ, List, Some, None, Ok, Err, Option, Result, sym, subst, rules}
use Rattle.bits.specs.declared.Refusal.{Refusal}
use Rattle.bits.specs.Heard.{Lost, Got}
use Rattle.frame_theory.specs.Promise.{FrameBits}
use Rattle.frame.specs.Hearing.{Hearing}
use Rattle.text.specs.Lines.{Said, Bits, said}
use Rattle.text.proofs.LineLaws.{line-laws}
use Rattle.ends.specs.Hearing.{HeardOf, LineHeard}
use Rattle.ends.proofs.hearing.hear_line.Goals as goal

in_line :
    (line bits : List ℕ) → said 4092 line ≡ Bits bits → FrameBits bits → (r : Result (Option (List ℕ)) Refusal) → Hearing bits r → LineHeard line r
in_line line bits s f (Ok None) (g, h) = subst (λ (x : Said). HeardOf x Lost) (sym s) h
in_line line bits s f (Ok (Some p)) (g, h) = subst (λ (x : Said). HeardOf x (Got p)) (sym s) h
in_line line bits s f (Err e) (n, h) = absurd (n f)

pub returns-in-Some : goal.returns-in-Some
returns-in-Some c =
    let says : said 4092 c.args.line.now ≡ Bits c.in-Some.bits = search rules in
    let parts = line-laws.frames_only 4092 c.args.line.now c.in-Some.bits says in
    in_line c.args.line.now c.in-Some.bits says (parts.1, parts.2) c.hear.result c.hear.ensures.heard
