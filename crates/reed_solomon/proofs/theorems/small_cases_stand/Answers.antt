use Rattle.reed_solomon.proofs.Small.{small_cases}
use Rattle.reed_solomon.proofs.theorems.small_cases_stand.Goals as goal

pub returns : goal.returns
returns c = small_cases
