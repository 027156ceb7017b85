-- docs/RULES.md, "Points worked through": the points that are proved, hydrogen's and oxygen's and behind them nitrogen's. What a row says is in
-- Rows.antt; that every row is right is `starred_points`, in proofs/Theorems.antt. Where the rules name no pressure a row is for all of
-- them, and where they name no slot for every slot that leads to the same reply, which for an answer is every one up to 63.
use Rattle.std.specs.Prelude.{List, [], ◌∷◌, pos, neg_ℤ}
use Rattle.fluid.specs.declared.choice.Fluid.TheVariants.{Hydrogen, Oxygen, Nitrogen}
use Rattle.replies.specs.declared.Answer.TheVariants.{One, Split}
use Rattle.worked.specs.Rows.{Row, answered, value, refused, only, up_to, all}

unfoldable pub table : List Row
table =
    answered Oxygen 300000 1000000 154576 5042000 (record { t = 19407; p = 198333; s = 13930; a = 1616; b = 885 }) (up_to 63) (One 99286 12920)
    ∷ answered Oxygen 120000 500000 154576 5042000 (record { t = 7763; p = 99166; s = 8810; a = 7984; b = 1106 }) (up_to 63) (Split 92696 1699 17299 943832)
    ∷ value 7984 1106 1699 (neg_ℤ (pos 292242865))
    ∷ value 7984 1106 1700 (pos 63098800)
    ∷ value 7984 1106 92696 (neg_ℤ (pos 84314720))
    ∷ answered Hydrogen 300000 1000000 42083 1907366 (record { t = 71287; p = 524283; s = 26699; a = 165; b = 637 }) (up_to 63) (One 100474 804)
    ∷ answered Hydrogen 1000000 10000 43133 2002851 (record { t = 231841; p = 4992; s = 48149; a = 0; b = 1 }) (up_to 63) (One 100001 2)
    ∷ refused 1 55999 all all 21
    ∷ refused 1 56000 (only 9999) all 31
    ∷ answered Oxygen 56000 10000 154576 5042000 (record { t = 3622; p = 1983; s = 6018; a = 1073; b = 47 }) (up_to 63) (Split 98963 51 694 1347538)
    ∷ answered Oxygen 56000 50000000 154576 5042000 (record { t = 3622; p = 9916699; s = 6018; a = 5369500; b = 237212 }) (up_to 63) (One 256275 1340834)
    ∷ refused 3 0 all all 1
    ∷ refused 1 300000 (only 1000000) (only 64) 4
    ∷ answered Nitrogen 300000 1000000 126192 3395800 (record { t = 23773; p = 294481; s = 15418; a = 1444; b = 1073 }) (up_to 63) (One 99654 11269)
    ∷ answered Nitrogen 90000 300000 126192 3395800 (record { t = 7131; p = 88344; s = 8444; a = 8795; b = 1073 }) (up_to 63) (Split 91704 1518 12246 739841)
    ∷ answered Nitrogen 64000 10000 126192 3395800 (record { t = 5071; p = 2944; s = 7121; a = 687; b = 50 }) (up_to 63) (Split 99359 59 529 892276)
    ∷ refused 2 63999 all all 21
    ∷ []
