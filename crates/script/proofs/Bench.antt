-- 01, "The replay program": the example's three lines of input are read as meant, and its three lines of output are written;
-- and lines that are unreadable. Settled by computation.
use Prim.Native.Nat.{ℕ}
use mathlib.Core.Path.{◌≡◌, refl}
use mathlib.Core.List.{List, [], ◌∷◌}
use Rattle.std.specs.Prelude.{Some, None}
use Rattle.wire.specs.Name.{same_octets}
use Rattle.script.specs.Digit.{digit_value, digit_octet}
use Rattle.script.specs.Number.{digits, in64, value_of, plain, number, decimal_in, decimal}
use Rattle.script.specs.Hex.{hex_bytes, hex_octets}
use Rattle.script.specs.Fields.{fields, tabbed}
use Rattle.script.specs.Verb.{verb_of, verb_text}
use Rattle.script.specs.Line.{Line, timed, spoken, line_of_fields, line_of}
use Rattle.script.specs.Output.{verb_octets, session_octets, bytes_octets, line_octets}
use Rattle.script.specs.declared.verb.Verb.TheVariants.{Open, Message, Batch}

-- The octets that the example writes as hexadecimal digits: a batch, a message, and what is sent.
abbrev edits : List ℕ
edits =
    1 ∷ 97 ∷ 4 ∷ 115 ∷ 104 ∷ 111 ∷ 112 ∷ 7 ∷ 101 ∷ 120 ∷ 97 ∷ 109 ∷ 112 ∷ 108 ∷ 101 ∷ 0 ∷ 0 ∷ 1 ∷ 0 ∷ 1 ∷ 0 ∷ 0 ∷ 0 ∷
    120 ∷ 0 ∷ 4 ∷ 192 ∷ 0 ∷ 2 ∷ 1 ∷ []

abbrev request : List ℕ
request =
    18 ∷ 52 ∷ 48 ∷ 0 ∷ 0 ∷ 0 ∷ 0 ∷ 0 ∷ 0 ∷ 0 ∷ 0 ∷ 0 ∷ 0 ∷ 64 ∷ 0 ∷ 20 ∷ 1 ∷ 97 ∷ 4 ∷ 115 ∷ 104 ∷ 111 ∷ 112 ∷ 7 ∷
    101 ∷ 120 ∷ 97 ∷ 109 ∷ 112 ∷ 108 ∷ 101 ∷ 0 ∷ 0 ∷ 1 ∷ 0 ∷ 1 ∷ []

abbrev sent : List ℕ
sent =
    0 ∷ 12 ∷ 18 ∷ 52 ∷ 176 ∷ 0 ∷ 0 ∷ 0 ∷ 0 ∷ 0 ∷ 0 ∷ 0 ∷ 0 ∷ 0 ∷ 0 ∷ 46 ∷ 0 ∷ 0 ∷ 48 ∷ 0 ∷ 0 ∷ 0 ∷ 0 ∷ 0 ∷ 0 ∷ 0 ∷
    0 ∷ 0 ∷ 0 ∷ 65 ∷ 0 ∷ 30 ∷ 1 ∷ 97 ∷ 4 ∷ 115 ∷ 104 ∷ 111 ∷ 112 ∷ 7 ∷ 101 ∷ 120 ∷ 97 ∷ 109 ∷ 112 ∷ 108 ∷ 101 ∷ 0 ∷
    0 ∷ 1 ∷ 0 ∷ 1 ∷ 0 ∷ 0 ∷ 0 ∷ 120 ∷ 0 ∷ 4 ∷ 192 ∷ 0 ∷ 2 ∷ 1 ∷ []

-- ---- read

abbrev open-line : List ℕ
open-line =
    111 ∷ 112 ∷ 101 ∷ 110 ∷ 9 ∷ 49 ∷ 48 ∷ 48 ∷ 48 ∷ []

pub open-line-read : line_of open-line ≡ Line.opening 1000
unfolding line_of line_of_fields fields verb_of verb_text same_octets spoken timed number plain value_of in64 digits digit_value hex_bytes
open-line-read = refl

abbrev batch-line : List ℕ
batch-line =
    98 ∷ 97 ∷ 116 ∷ 99 ∷ 104 ∷ 9 ∷ 49 ∷ 48 ∷ 48 ∷ 48 ∷ 9 ∷ 48 ∷ 49 ∷ 54 ∷ 49 ∷ 48 ∷ 52 ∷ 55 ∷ 51 ∷ 54 ∷ 56 ∷ 54 ∷
    102 ∷ 55 ∷ 48 ∷ 48 ∷ 55 ∷ 54 ∷ 53 ∷ 55 ∷ 56 ∷ 54 ∷ 49 ∷ 54 ∷ 100 ∷ 55 ∷ 48 ∷ 54 ∷ 99 ∷ 54 ∷ 53 ∷ 48 ∷ 48 ∷ 48 ∷
    48 ∷ 48 ∷ 49 ∷ 48 ∷ 48 ∷ 48 ∷ 49 ∷ 48 ∷ 48 ∷ 48 ∷ 48 ∷ 48 ∷ 48 ∷ 55 ∷ 56 ∷ 48 ∷ 48 ∷ 48 ∷ 52 ∷ 99 ∷ 48 ∷ 48 ∷
    48 ∷ 48 ∷ 50 ∷ 48 ∷ 49 ∷ []

pub batch-line-read : line_of batch-line ≡ Line.batch 1000 edits
unfolding line_of line_of_fields fields verb_of verb_text same_octets spoken timed number plain value_of in64 digits digit_value hex_bytes
batch-line-read = refl

abbrev message-line : List ℕ
message-line =
    109 ∷ 115 ∷ 103 ∷ 9 ∷ 49 ∷ 48 ∷ 48 ∷ 48 ∷ 9 ∷ 48 ∷ 9 ∷ 49 ∷ 50 ∷ 51 ∷ 52 ∷ 51 ∷ 48 ∷ 48 ∷ 48 ∷ 48 ∷ 48 ∷ 48 ∷
    48 ∷ 48 ∷ 48 ∷ 48 ∷ 48 ∷ 48 ∷ 48 ∷ 48 ∷ 48 ∷ 48 ∷ 48 ∷ 48 ∷ 48 ∷ 48 ∷ 48 ∷ 52 ∷ 48 ∷ 48 ∷ 48 ∷ 49 ∷ 52 ∷ 48 ∷
    49 ∷ 54 ∷ 49 ∷ 48 ∷ 52 ∷ 55 ∷ 51 ∷ 54 ∷ 56 ∷ 54 ∷ 102 ∷ 55 ∷ 48 ∷ 48 ∷ 55 ∷ 54 ∷ 53 ∷ 55 ∷ 56 ∷ 54 ∷ 49 ∷ 54 ∷
    100 ∷ 55 ∷ 48 ∷ 54 ∷ 99 ∷ 54 ∷ 53 ∷ 48 ∷ 48 ∷ 48 ∷ 48 ∷ 48 ∷ 49 ∷ 48 ∷ 48 ∷ 48 ∷ 49 ∷ []

pub message-line-read : line_of message-line ≡ Line.message 1000 0 request
unfolding line_of line_of_fields fields verb_of verb_text same_octets spoken timed number plain value_of in64 digits digit_value hex_bytes
message-line-read = refl

-- ---- written

abbrev open-answer : List ℕ
open-answer =
    111 ∷ 112 ∷ 101 ∷ 110 ∷ 9 ∷ 49 ∷ 9 ∷ 48 ∷ 9 ∷ 45 ∷ 10 ∷ []

pub open-answer-written : line_octets (Some Open) 1 (Some 0) None ≡ open-answer
unfolding line_octets tabbed verb_octets verb_text decimal decimal_in digit_octet session_octets bytes_octets hex_octets
open-answer-written = refl

abbrev batch-answer : List ℕ
batch-answer =
    98 ∷ 97 ∷ 116 ∷ 99 ∷ 104 ∷ 9 ∷ 49 ∷ 9 ∷ 45 ∷ 9 ∷ 45 ∷ 10 ∷ []

pub batch-answer-written : line_octets (Some Batch) 1 None None ≡ batch-answer
unfolding line_octets tabbed verb_octets verb_text decimal decimal_in digit_octet session_octets bytes_octets hex_octets
batch-answer-written = refl

abbrev message-answer : List ℕ
message-answer =
    109 ∷ 115 ∷ 103 ∷ 9 ∷ 50 ∷ 9 ∷ 48 ∷ 9 ∷ 48 ∷ 48 ∷ 48 ∷ 99 ∷ 49 ∷ 50 ∷ 51 ∷ 52 ∷ 98 ∷ 48 ∷ 48 ∷ 48 ∷ 48 ∷ 48 ∷
    48 ∷ 48 ∷ 48 ∷ 48 ∷ 48 ∷ 48 ∷ 48 ∷ 48 ∷ 48 ∷ 48 ∷ 48 ∷ 48 ∷ 48 ∷ 48 ∷ 48 ∷ 48 ∷ 50 ∷ 101 ∷ 48 ∷ 48 ∷ 48 ∷ 48 ∷
    51 ∷ 48 ∷ 48 ∷ 48 ∷ 48 ∷ 48 ∷ 48 ∷ 48 ∷ 48 ∷ 48 ∷ 48 ∷ 48 ∷ 48 ∷ 48 ∷ 48 ∷ 48 ∷ 48 ∷ 48 ∷ 48 ∷ 48 ∷ 48 ∷ 48 ∷
    52 ∷ 49 ∷ 48 ∷ 48 ∷ 49 ∷ 101 ∷ 48 ∷ 49 ∷ 54 ∷ 49 ∷ 48 ∷ 52 ∷ 55 ∷ 51 ∷ 54 ∷ 56 ∷ 54 ∷ 102 ∷ 55 ∷ 48 ∷ 48 ∷ 55 ∷
    54 ∷ 53 ∷ 55 ∷ 56 ∷ 54 ∷ 49 ∷ 54 ∷ 100 ∷ 55 ∷ 48 ∷ 54 ∷ 99 ∷ 54 ∷ 53 ∷ 48 ∷ 48 ∷ 48 ∷ 48 ∷ 48 ∷ 49 ∷ 48 ∷ 48 ∷
    48 ∷ 49 ∷ 48 ∷ 48 ∷ 48 ∷ 48 ∷ 48 ∷ 48 ∷ 55 ∷ 56 ∷ 48 ∷ 48 ∷ 48 ∷ 52 ∷ 99 ∷ 48 ∷ 48 ∷ 48 ∷ 48 ∷ 50 ∷ 48 ∷ 49 ∷
    10 ∷ []

pub message-answer-written : line_octets (Some Message) 2 (Some 0) (Some sent) ≡ message-answer
unfolding line_octets tabbed verb_octets verb_text decimal decimal_in digit_octet session_octets bytes_octets hex_octets
message-answer-written = refl

-- ---- at the edges of the format

-- The greatest number of 64 bits, and one more.
pub greatest : line_of (116 ∷ 105 ∷ 99 ∷ 107 ∷ 9 ∷ 49 ∷ 56 ∷ 52 ∷ 52 ∷ 54 ∷ 55 ∷ 52 ∷ 52 ∷ 48 ∷ 55 ∷ 51 ∷ 55 ∷ 48 ∷ 57 ∷ 53 ∷ 53 ∷ 49 ∷ 54 ∷ 49 ∷ 53 ∷ []) ≡ Line.ticking 18446744073709551615
unfolding line_of line_of_fields fields verb_of verb_text same_octets spoken timed number plain value_of in64 digits digit_value hex_bytes
greatest = refl

pub too-great : line_of (116 ∷ 105 ∷ 99 ∷ 107 ∷ 9 ∷ 49 ∷ 56 ∷ 52 ∷ 52 ∷ 54 ∷ 55 ∷ 52 ∷ 52 ∷ 48 ∷ 55 ∷ 51 ∷ 55 ∷ 48 ∷ 57 ∷ 53 ∷ 53 ∷ 49 ∷ 54 ∷ 49 ∷ 54 ∷ []) ≡ Line.unreadable
unfolding line_of line_of_fields fields verb_of verb_text same_octets spoken timed number plain value_of in64 digits digit_value hex_bytes
too-great = refl

-- Zero, and a leading zero.
pub zero-alone : line_of (116 ∷ 105 ∷ 99 ∷ 107 ∷ 9 ∷ 48 ∷ []) ≡ Line.ticking 0
unfolding line_of line_of_fields fields verb_of verb_text same_octets spoken timed number plain value_of in64 digits digit_value hex_bytes
zero-alone = refl

pub zero-leading : line_of (116 ∷ 105 ∷ 99 ∷ 107 ∷ 9 ∷ 48 ∷ 49 ∷ []) ≡ Line.unreadable
unfolding line_of line_of_fields fields verb_of verb_text same_octets spoken timed number plain value_of in64 digits digit_value hex_bytes
zero-leading = refl

-- No digit at all.
pub no_digit : line_of (116 ∷ 105 ∷ 99 ∷ 107 ∷ 9 ∷ []) ≡ Line.unreadable
unfolding line_of line_of_fields fields verb_of verb_text same_octets spoken timed number plain value_of in64 digits digit_value hex_bytes
no_digit = refl

-- No octets, and a field that is missing.
pub no-octets : line_of (98 ∷ 97 ∷ 116 ∷ 99 ∷ 104 ∷ 9 ∷ 53 ∷ 9 ∷ []) ≡ Line.batch 5 []
unfolding line_of line_of_fields fields verb_of verb_text same_octets spoken timed number plain value_of in64 digits digit_value hex_bytes
no-octets = refl

pub no_field : line_of (98 ∷ 97 ∷ 116 ∷ 99 ∷ 104 ∷ 9 ∷ 53 ∷ []) ≡ Line.unreadable
unfolding line_of line_of_fields fields verb_of verb_text same_octets spoken timed number plain value_of in64 digits digit_value hex_bytes
no_field = refl

-- One field more.
pub more-fields : line_of (111 ∷ 112 ∷ 101 ∷ 110 ∷ 9 ∷ 53 ∷ 9 ∷ []) ≡ Line.unreadable
unfolding line_of line_of_fields fields verb_of verb_text same_octets spoken timed number plain value_of in64 digits digit_value hex_bytes
more-fields = refl

-- An odd digit; a capital one; a verb in capitals; CR at the end; the empty line.
pub odd : line_of (98 ∷ 97 ∷ 116 ∷ 99 ∷ 104 ∷ 9 ∷ 53 ∷ 9 ∷ 97 ∷ 98 ∷ 99 ∷ []) ≡ Line.unreadable
unfolding line_of line_of_fields fields verb_of verb_text same_octets spoken timed number plain value_of in64 digits digit_value hex_bytes
odd = refl

pub capital-digit : line_of (98 ∷ 97 ∷ 116 ∷ 99 ∷ 104 ∷ 9 ∷ 53 ∷ 9 ∷ 65 ∷ 66 ∷ []) ≡ Line.unreadable
unfolding line_of line_of_fields fields verb_of verb_text same_octets spoken timed number plain value_of in64 digits digit_value hex_bytes
capital-digit = refl

pub capital-verb : line_of (79 ∷ 80 ∷ 69 ∷ 78 ∷ 9 ∷ 53 ∷ []) ≡ Line.unreadable
unfolding line_of line_of_fields fields verb_of verb_text same_octets spoken timed number plain value_of in64 digits digit_value hex_bytes
capital-verb = refl

pub carriage-return : line_of (111 ∷ 112 ∷ 101 ∷ 110 ∷ 9 ∷ 53 ∷ 13 ∷ []) ≡ Line.unreadable
unfolding line_of line_of_fields fields verb_of verb_text same_octets spoken timed number plain value_of in64 digits digit_value hex_bytes
carriage-return = refl

pub empty : line_of ([]) ≡ Line.unreadable
unfolding line_of line_of_fields fields verb_of verb_text same_octets spoken timed number plain value_of in64 digits digit_value hex_bytes
empty = refl
