-- `claims::judging::judge` lays the root beside the side's own. What the search began at does not occur. Assumes nothing.
use mathlib.Core.Path.{◌∙◌}
use Rattle.refusals.specs.Checks.{NoneOf}
use Rattle.claims.specs.Claims.{Claim, SideRoot, side_checks, Stands}
use Rattle.claims.proofs.Verdicts.{refused_by_root}
use Rattle.claims.proofs.judging.judge.Goals as goal

stands : {claim : Claim} → NoneOf (side_checks claim) → SideRoot claim claim.root → Stands claim
stands accepted is_own = record { accepted = accepted; is_own = is_own }

pub returns-then-root-own : goal.returns-then-root-own
returns-then-root-own c =
    stands c.in_ok-found.ensures.0
    (record { found = c.in_ok-found.found; roots = c.in_ok-found.ensures.1; is_root = c.if-root-own.true ∙ c.for_side-own.ensures })

pub returns-else-root-own : goal.returns-else-root-own
returns-else-root-own c =
    refused_by_root c.in_ok-found.ensures.0
    (record {
      own = c.for_side-own.result;
      is_own = record { found = c.in_ok-found.found; roots = c.in_ok-found.ensures.1; is_root = c.for_side-own.ensures };
      differs = c.if-root-own.false;
    })
