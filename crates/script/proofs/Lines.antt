-- A line read field by field is the line that the definition gives.
use Prim.Native.Nat.{ℕ, ◌+◌, ◌-◌, ◌≤◌, ◌<◌}
use mathlib.Core.Path.{◌≡◌, refl}
use mathlib.Core.Bool.{Bool, true, false, cond}
use mathlib.Core.List.{List, [], ◌∷◌}
use lib.ListN.{length, take, drop}
use lib.Dec.{leb}
use borrow.Author.Tests.{le-leb, lt-leb}
use Rattle.std.specs.Prelude.{Option, Some, None}
use Rattle.script.specs.Number.{number}
use Rattle.script.specs.Hex.{hex_bytes}
use Rattle.script.specs.Fields.{tab, until, fields}
use Rattle.script.specs.Verb.{verb_of}
use Rattle.script.specs.Line.{Line, max_line, with_field, timed, spoken, line_of_fields, line_of}
use Rattle.script.specs.Code.{Is}
use Rattle.script.specs.declared.verb.Verb.{Verb}
use Rattle.script.specs.declared.verb.Verb.TheVariants.{Open as open-verb, Close as close-verb, Message as message-verb, Batch as batch-verb, Tick as tick-verb}
use Rattle.script.specs.declared.reader.Command.TheVariants.{Close}
use Rattle.script.proofs.Parting.{fields-whole, fields-cases, parted}
use Rattle.script.proofs.Tabless.{number-tabless, bytes-tabless}

-- ---- a verb and its time, and fields where there are none to be

pub open-more : (t : ℕ) (s : List ℕ) → Line.unreadable ≡ timed open-verb t (fields s)
unfolding timed
open-more t s = fields-cases (λ fs. Line.unreadable ≡ timed open-verb t fs) s refl (λ a b c. refl)

pub tick-more : (t : ℕ) (s : List ℕ) → Line.unreadable ≡ timed tick-verb t (fields s)
unfolding timed
tick-more t s = fields-cases (λ fs. Line.unreadable ≡ timed tick-verb t fs) s refl (λ a b c. refl)

-- ---- close: one field more

pub close-read : (t : ℕ) (s : List ℕ) (x : ℕ) → number s ≡ Some x → Is (Some (Close t x)) (timed close-verb t (fields s))
unfolding timed
close-read t s x g = rw (fields-whole s (number-tabless s x g).tabless, g) (record { whatever = λ o. refl })

pub close-none : (t : ℕ) (s : List ℕ) → number s ≡ None → Is None (timed close-verb t (fields s))
unfolding timed
close-none t s g =
    fields-cases (λ fs. Is None (timed close-verb t fs)) s (rw g (record { whatever = λ o. refl })) (λ a b c. record { whatever = λ o. refl })

-- ---- batch: one field more

pub batch-read : (t : ℕ) (s l : List ℕ) → hex_bytes s ≡ Some l → Line.batch t l ≡ timed batch-verb t (fields s)
unfolding timed
batch-read t s l g = rw (fields-whole s (bytes-tabless s l g).tabless, g)

pub batch-none : (t : ℕ) (s : List ℕ) → hex_bytes s ≡ None → Line.unreadable ≡ timed batch-verb t (fields s)
unfolding timed
batch-none t s g = fields-cases (λ fs. Line.unreadable ≡ timed batch-verb t fs) s (rw g) (λ a b c. refl)

-- ---- message: two fields more

pub message-short : (t : ℕ) (s : List ℕ) → length s ≤ until tab s → Line.unreadable ≡ timed message-verb t (fields s)
unfolding timed
message-short t s h = rw (fields-whole s h)

module _ (t : ℕ) (s : List ℕ) (i : ℕ) (h : (i ≡ until tab s) × (i < length s)) where
  abbrev rest : List ℕ
  rest = take (length s - (i + 1)) (drop (i + 1) s)

  pub message-no-session : number (take i s) ≡ None → Line.unreadable ≡ timed message-verb t (fields s)
  unfolding timed
  message-no-session g =
      rw (parted s i h) (fields-cases (λ fs. Line.unreadable ≡ timed message-verb t (take i s ∷ fs)) rest (rw g) (λ a b c. refl))

  module _ (n : ℕ) (session : number (take i s) ≡ Some n) where
    pub message-none : hex_bytes rest ≡ None → Line.unreadable ≡ timed message-verb t (fields s)
    unfolding timed
    message-none g =
        rw (parted s i h) (fields-cases (λ fs. Line.unreadable ≡ timed message-verb t (take i s ∷ fs)) rest (rw (session, g)) (λ a b c. refl))

    pub message-read : (l : List ℕ) → hex_bytes rest ≡ Some l → Line.message t n l ≡ timed message-verb t (fields s)
    unfolding timed
    message-read l g = rw (parted s i h, fields-whole rest (bytes-tabless rest l g).tabless, session, g)

-- ---- the time

pub spoken-alone-none : (v : Verb) (s : List ℕ) → length s ≤ until tab s → number s ≡ None → Line.unreadable ≡ spoken v (fields s)
unfolding spoken
spoken-alone-none v s h g = rw (fields-whole s h, g)

pub spoken-alone : (v : Verb) (s : List ℕ) → length s ≤ until tab s → (t : ℕ) → number s ≡ Some t → timed v t [] ≡ spoken v (fields s)
unfolding spoken
spoken-alone v s h t g = rw (fields-whole s h, g)

module _ (v : Verb) (s : List ℕ) (i : ℕ) (h : (i ≡ until tab s) × (i < length s)) where
  pub spoken-none : number (take i s) ≡ None → Line.unreadable ≡ spoken v (fields s)
  unfolding spoken
  spoken-none g = rw (parted s i h, g)

  pub spoken-timed : (t : ℕ) → number (take i s) ≡ Some t → timed v t (fields (take (length s - (i + 1)) (drop (i + 1) s))) ≡ spoken v (fields s)
  unfolding spoken
  spoken-timed t g = rw (parted s i h, g)

-- ---- the whole line

either : (t : Bool) → Line.unreadable ≡ cond t Line.unreadable Line.unreadable
either true = refl
either false = refl

pub line-long : (s : List ℕ) → max_line < length s → Line.unreadable ≡ line_of s
unfolding line_of
line-long s h = rw (lt-leb (length s) max_line h)

-- A field alone is no line, however long it is.
pub line-bare : (s : List ℕ) → length s ≤ until tab s → Line.unreadable ≡ line_of s
unfolding line_of line_of_fields spoken
line-bare s h = rw (fields-whole s h) (by-verb (verb_of s))
  where
    by-verb : (o : Option Verb) → Line.unreadable ≡ cond (leb (length s) max_line) (with_field o (λ v. spoken v [])) Line.unreadable
    by-verb None = either (leb (length s) max_line)
    by-verb (Some v) = either (leb (length s) max_line)

module _ (s : List ℕ) (i : ℕ) (h : (i ≡ until tab s) × (i < length s)) where
  pub line-unspoken : verb_of (take i s) ≡ None → Line.unreadable ≡ line_of s
  unfolding line_of line_of_fields
  line-unspoken e = rw (parted s i h, e) (either (leb (length s) max_line))

  pub line-spoken : length s ≤ max_line → (v : Verb) → verb_of (take i s) ≡ Some v
      → spoken v (fields (take (length s - (i + 1)) (drop (i + 1) s))) ≡ line_of s
  unfolding line_of line_of_fields
  line-spoken b v e = rw (le-leb (length s) max_line b, parted s i h, e)

pub ruleset alone = (open-more, tick-more)

pub ruleset closing = (close-read, close-none)

pub ruleset batching = (batch-read, batch-none)

pub ruleset messaging = (message-short, message-no-session, message-none, message-read)

pub ruleset speaking = (spoken-alone-none, spoken-alone, spoken-none, spoken-timed)

pub ruleset lining = (line-long, line-bare, line-unspoken, line-spoken)
