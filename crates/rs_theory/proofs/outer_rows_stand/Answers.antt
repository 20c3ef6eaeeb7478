-- Computed in Rows. Assumes nothing.
use Rattle.rs_theory.proofs.Rows.{outer_rows}
use Rattle.rs_theory.proofs.outer_rows_stand.Goals as goal

pub returns : goal.returns
returns c = outer_rows
