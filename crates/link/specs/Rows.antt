-- The table of cases, one theorem for each row. Assumes nothing.
use Rattle.std.specs.Prelude.{◌≡◌}
use Rattle.bits.specs.Laws.{Vectors}
use Rattle.gf256.specs.Field.{product}
use Rattle.rs_theory.specs.Promise.{OuterRows}
use Rattle.reed_solomon.specs.Repair.{SmallCases}
use Rattle.conv_theory.specs.Statements.{RowsHold}
use Rattle.transfer_theory.specs.Cases.{EmptyFile, LastPart, Gap}

pub record Table : Type 0 where
  -- 2 times 128 is 29
  pub field : product 2 128 ≡ 29
  -- the generator with its head begins 1, 232, 29, 189, 50; 223 zeros are encoded as zeros
  pub outer : OuterRows
  -- every word with one byte that is not zero is repaired to zeros, and no word with seventeen of them is
  pub repair : SmallCases
  -- one bit 1, and no bits, through the inner code
  pub inner : RowsHold
  -- the pattern's first bytes, and the check of nine bytes
  pub bits : Vectors
  -- the empty file; 214 and 215 bytes; parts 0 and 2 of 600 bytes
  pub empty : EmptyFile
  pub last_part : LastPart
  pub gap : Gap
