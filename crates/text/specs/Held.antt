-- How a line of text is held: its bytes in front, and zeros behind them, so that the text says all. Assumes nothing.
use Rattle.std.specs.Prelude.{◌≡◌, ℕ, ◌-◌, ◌≤◌, List, ◌++◌, length, take, drop}
use Rattle.bits.specs.Lists.{zeros}
use Rattle.text.specs.declared.line.Line.TheInside.{Inside}
use Rattle.std.proofs.Common.{ap, sym, ◌∙◌, arith}
use Rattle.std.proofs.lemmas.List.{length-take-le, take-append-drop}

-- the text that a line holds, without a newline
abbrev pub text_of : Inside → List ℕ
text_of l = take l.count l.bytes

-- 4,093 places, and zeros in those behind the text
pub record Filled (l : Inside) : Type 0 where
  pub within : l.count ≤ 4093
  pub long : length l.bytes ≡ 4093
  pub rest : drop l.count l.bytes ≡ zeros (4093 - l.count)

-- the line of these bytes, of which so many are its text
abbrev held : List ℕ → ℕ → Inside
held bytes count = record { bytes = bytes; count = count }

-- the line that holds a text
abbrev pub line_of : List ℕ → Inside
line_of text = held (text ++ zeros (4093 - length text)) (length text)

-- the text says all of a line
pub line_of-text_of : (l : Inside) → Filled l → line_of (text_of l) ≡ l
line_of-text_of l h =
    let text = text_of l in
    let long : length text ≡ l.count = length-take-le l.count l.bytes (omega (arith, h.within, h.long)) in
    ap (λ (n : ℕ). held (text ++ zeros (4093 - n)) n) long
    ∙ ap (λ (ys : List ℕ). held (text ++ ys) l.count) (sym h.rest)
    ∙ ap (λ (ys : List ℕ). held ys l.count) (take-append-drop l.count l.bytes)
