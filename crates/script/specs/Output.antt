-- A line of output. 01, "The replay program": "Output: verb, answer, session or -, hex or -", a tab between, ended by LF.
use Rattle.std.specs.Prelude.{ℕ, List, [], ◌∷◌, ◌++◌, Option, Some, None}
use Rattle.script.specs.Number.{decimal}
use Rattle.script.specs.Hex.{hex_octets}
use Rattle.script.specs.Fields.{tabbed}
use Rattle.script.specs.Verb.{verb_text}
use Rattle.script.specs.declared.verb.Verb.{Verb}

abbrev pub lf : ℕ
lf = 10

-- "-", where a field has nothing to say.
abbrev pub dash : List ℕ
dash = 45 ∷ []

-- "?", where no verb was read.
unfoldable pub verb_octets : Option Verb → List ℕ
verb_octets None = 63 ∷ []
verb_octets (Some v) = verb_text v

unfoldable pub session_octets : Option ℕ → List ℕ
session_octets None = dash
session_octets (Some s) = decimal s

unfoldable pub bytes_octets : Option (List ℕ) → List ℕ
bytes_octets None = dash
bytes_octets (Some l) = hex_octets l

unfoldable pub line_octets : Option Verb → ℕ → Option ℕ → Option (List ℕ) → List ℕ
line_octets v answer session bytes =
    tabbed (verb_octets v ∷ decimal answer ∷ session_octets session ∷ bytes_octets bytes ∷ []) ++ (lf ∷ [])
