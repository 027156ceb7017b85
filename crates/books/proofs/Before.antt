-- Before the book was 192 bytes it was 64 numbers of 32 bits. It stands here for the theorems that
-- lay the book in bytes beside it (`state`). Assumes nothing.
use native.Mathlib.Omega.{arith}
use lib.ListN.{get_or, set, length-set}
use lib.Seq.{get_or-set_same, get_or-set_other}
use Rattle.books.specs.Layouts.{Layout}
use Rattle.books.proofs.Holding.{Holds}

abbrev pub in_numbers : Layout
in_numbers = record { elements = 64; says = λ book slot. get_or book slot 0; put = set }

pub in_numbers_holds : Holds in_numbers
in_numbers_holds =
    record {
      keeps_length = length-set;
      reads_back = λ book slot number there fits. get_or-set_same book slot number 0 (omega arith);
      keeps_others = λ book slot number other apart. get_or-set_other book slot other number 0 apart;
    }
