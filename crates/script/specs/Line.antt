-- What a line of input is. 01, "The replay program": "Standard input lines, fields parted by tabs: open time; close time s;
-- msg time s hex; batch time hex; tick time"; "A line over 32,768 bytes, LF aside, or unreadable".
use Rattle.std.specs.Prelude.{ℕ, ◌^◌, ◌<◌, ◌≡◌, true, cond, List, [], ◌∷◌, length, leb, Option, Some, None}
use Rattle.std.proofs.Math.Pow.{are_bytes}
use Rattle.script.specs.Number.{number, decimal}
use Rattle.script.specs.Hex.{hex_bytes, hex_octets}
use Rattle.script.specs.Fields.{fields, tabbed}
use Rattle.script.specs.Verb.{verb_of, verb_text}
use Rattle.script.specs.declared.verb.Verb.{Verb}
use Rattle.script.specs.declared.verb.Verb.TheVariants.{Open, Close, Message, Batch, Tick}

-- A time t in milliseconds, a session number s as it is written, and octets.
pub data Line : Type 0 where
  opening : ℕ → Line
  closing : ℕ → ℕ → Line
  message : ℕ → ℕ → List ℕ → Line
  batch : ℕ → List ℕ → Line
  ticking : ℕ → Line
  unreadable : Line

abbrev pub max_line : ℕ
max_line = 32768

-- A field that has to be a verb, a number, or octets, makes the whole line unreadable where it is none.
abbrev pub with_field : {A : Type 0} → Option A → (A → Line) → Line
with_field None k = Line.unreadable
with_field (Some x) k = k x

-- What a verb, its time and the fields behind them are: exactly the fields that the verb has.
unfoldable pub timed : Verb → ℕ → List (List ℕ) → Line
timed Open t [] = Line.opening t
timed Open t (f ∷ fs) = Line.unreadable
timed Tick t [] = Line.ticking t
timed Tick t (f ∷ fs) = Line.unreadable
timed Close t [] = Line.unreadable
timed Close t (s ∷ []) = with_field (number s) (λ n. Line.closing t n)
timed Close t (s ∷ f ∷ fs) = Line.unreadable
timed Message t [] = Line.unreadable
timed Message t (s ∷ []) = Line.unreadable
timed Message t (s ∷ h ∷ []) = with_field (number s) (λ n. with_field (hex_bytes h) (λ l. Line.message t n l))
timed Message t (s ∷ h ∷ f ∷ fs) = Line.unreadable
timed Batch t [] = Line.unreadable
timed Batch t (h ∷ []) = with_field (hex_bytes h) (λ l. Line.batch t l)
timed Batch t (h ∷ f ∷ fs) = Line.unreadable

-- A verb, and the fields behind it, of which the first is the time.
unfoldable pub spoken : Verb → List (List ℕ) → Line
spoken v [] = Line.unreadable
spoken v (t ∷ fs) = with_field (number t) (λ n. timed v n fs)

unfoldable pub line_of_fields : List (List ℕ) → Line
line_of_fields [] = Line.unreadable
line_of_fields (v ∷ fs) = with_field (verb_of v) (λ w. spoken w fs)

-- The line that octets are, without the LF that ends it.
unfoldable pub line_of : List ℕ → Line
line_of l = cond (leb (length l) max_line) (line_of_fields (fields l)) Line.unreadable

-- The octets that a line carries, if it does.
abbrev pub octets_in : Line → List ℕ
octets_in (Line.opening t) = []
octets_in (Line.closing t s) = []
octets_in (Line.message t s l) = l
octets_in (Line.batch t l) = l
octets_in (Line.ticking t) = []
octets_in Line.unreadable = []

-- The text of a line, in the same format. (An unreadable one has none.)
unfoldable pub line_fields : Line → List (List ℕ)
line_fields (Line.opening t) = verb_text Open ∷ decimal t ∷ []
line_fields (Line.closing t s) = verb_text Close ∷ decimal t ∷ decimal s ∷ []
line_fields (Line.message t s l) = verb_text Message ∷ decimal t ∷ decimal s ∷ hex_octets l ∷ []
line_fields (Line.batch t l) = verb_text Batch ∷ decimal t ∷ hex_octets l ∷ []
line_fields (Line.ticking t) = verb_text Tick ∷ decimal t ∷ []
line_fields Line.unreadable = []

unfoldable pub line_text : Line → List ℕ
line_text line = tabbed (line_fields line)

-- A line whose text can be written and read: numbers of 64 bits, and octets. (01 has no text for an unreadable one.)
abbrev pub Fitting : Line → Type 0
Fitting (Line.opening t) = t < 2 ^ 64
Fitting (Line.closing t s) = (t < 2 ^ 64) × (s < 2 ^ 64)
Fitting (Line.message t s l) = (t < 2 ^ 64) × ((s < 2 ^ 64) × (are_bytes l ≡ true))
Fitting (Line.batch t l) = (t < 2 ^ 64) × (are_bytes l ≡ true)
Fitting (Line.ticking t) = t < 2 ^ 64
Fitting Line.unreadable = ⊥
