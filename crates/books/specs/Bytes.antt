-- docs/RULES.md, "The book": it is 192 bytes, three to a slot, lowest first. Slot k has bytes 3 k, 3 k + 1 and 3 k + 2.
use Rattle.std.specs.Prelude.{List, ℕ, ◌+◌, ◌*◌, ◌/◌, ◌%◌, get_or, set}
use Rattle.books.specs.Layouts.{Layout}

-- 2^24: three bytes say every number below it
abbrev pub three_byte_numbers : ℕ
three_byte_numbers = 16777216

-- the number that the bytes of a slot say
abbrev pub said : (book : List ℕ) (slot : ℕ) → ℕ
said book slot = get_or book (3 * slot) 0 + 256 * get_or book (3 * slot + 1) 0 + 65536 * get_or book (3 * slot + 2) 0

-- the book with these bytes in a slot
abbrev pub with_bytes : (book : List ℕ) (slot low middle high : ℕ) → List ℕ
with_bytes book slot low middle high = set (set (set book (3 * slot) low) (3 * slot + 1) middle) (3 * slot + 2) high

abbrev pub in_bytes : Layout
in_bytes =
    record {
      elements = 192;
      says = said;
      put = λ book slot number. with_bytes book slot (number % 256) (number / 256 % 256) (number / 65536 % 256);
    }
