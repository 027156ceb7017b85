-- `measures::fits::over_ten_digits` meets its contract: what `any` tells of the numbers is so of the list. Assumes nothing.
use Rattle.std.proofs.Common.{rules, tests, ◌≤◌, ◌<◌}
use Rattle.std.proofs.lemmas.Iterator.{YieldsList-from_slice, cases_from_any}
use Rattle.sheets.specs.Grammar.{eleven_digits}
use Rattle.measures.proofs.Numbers.{some_decided}
use Rattle.measures.proofs.fits.over_ten_digits.Goals as goal

pub returns : goal.returns
returns c =
    some_decided _ _ (cases_from_any _ _ _ (λ number. eleven_digits ≤ number) (λ number. number < eleven_digits) c.any.ensures.ran (YieldsList-from_slice c.args.numbers.now cc) (λ x q k. search (rules, tests)) (λ x q k. search (rules, tests)))
