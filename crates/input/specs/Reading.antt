-- How far the input has come, as the code has it.
use Rattle.std.specs.Prelude.{ℕ, Bool, true, false, List, [], ◌++◌, ◌≡◌, take, drop, Option, IfSome}
use Rattle.script.specs.Stream.{kept, piece_of}
use Rattle.input.specs.declared.progress.Progress.{Progress}

-- Nothing is held, and nothing is left of a chunk: before anything is read, and where nothing more is.
abbrev pub idle_with : Bool → Progress
idle_with more = record { end = 0; used = 0; held = 0; ready = false; more = more }

-- The line before is done with: nothing is held of the next one.
abbrev pub begun_from : Progress → Progress
begun_from p = record { end = p.end; used = p.used; held = 0; ready = false; more = p.more }

-- What is left of the chunk that was read last.
abbrev pub left_of : Progress → List ℕ → List ℕ
left_of p input = drop p.used (take p.end input)

-- From p to q a piece of the chunk was cut onto the line that is held in memory that was `line` and is line' then: a step of
-- `script/Chunks.Feeds`.
pub record Resumes (p : Progress) (input line : List ℕ) (q : Progress) (line' : List ℕ) : Type 0 where
  pub piece : record { held = take q.held line'; rest = left_of q input; ended = q.ready } ≡ piece_of (take p.held line) (left_of p input)
  pub end : q.end ≡ p.end
  pub more : q.more ≡ p.more

-- A line is ready that begins with what is held in h and goes on in `left` and in octets that came behind it. As much of it as is
-- kept stands at the front of `line`, and what follows it is left of the chunk. Where `left` has its LF, nothing more came; only the
-- input's last line may be without one. Which octets come, no contract can say.
pub record LineReady (h left : List ℕ) (q : Progress) (input line : List ℕ) : Type 0 where
  pub ready : q.ready ≡ true
  pub came : List ℕ
  pub unread : (piece_of h left).ended ≡ true → came ≡ []
  pub held : take q.held line ≡ (piece_of h (left ++ came)).held
  pub rest : left_of q input ≡ (piece_of h (left ++ came)).rest
  pub whole : q.more ≡ true → (piece_of h (left ++ came)).ended ≡ true

-- Octets came without the line's LF.
pub record LineGoing (h : List ℕ) (q : Progress) (line : List ℕ) : Type 0 where
  pub came : List ℕ
  pub held : take q.held line ≡ (piece_of h came).held
  pub ended : (piece_of h came).ended ≡ false

-- The line that is held in h, which is no more than is kept of a line, was read on.
pub record ReadsOn (h : List ℕ) (q : Progress) (input line : List ℕ) : Type 0 where
  pub is-ready : kept h ≡ h → q.ready ≡ true → LineReady h [] q input line
  pub is-going : kept h ≡ h → q.ready ≡ false → q.more ≡ true → LineGoing h q line

-- One read: no octet and the last line, if one is held, or a chunk behind what is held.
pub record Refills (held : ℕ) (q : Progress) : Type 0 where
  pub last : q.ready ≡ true → (q.held ≡ held) × (q.end ≡ 0)
  pub next : q.more ≡ true → q.held ≡ held

-- It was read to its end, or there is no line any more.
abbrev pub ReadsLine : List ℕ → Option Progress → List ℕ → List ℕ → Type 0
ReadsLine h r input line = IfSome r (λ q. kept h ≡ h → LineReady h [] q input line)

-- The next line was taken from what was left of the chunk and from what came behind it, or there is none any more.
abbrev pub NextLine : List ℕ → Option Progress → List ℕ → List ℕ → Type 0
NextLine left r input line = IfSome r (λ q. LineReady [] left q input line)

-- A read failed while the line was going on that begins with h and goes on in `left`. Octets came without its LF, and as much of it
-- as is kept stands at the front of `line`.
pub record LineBroken (h left line : List ℕ) : Type 0 where
  pub came : List ℕ
  pub count : ℕ
  pub held : take count line ≡ (piece_of h (left ++ came)).held
  pub ended : (piece_of h (left ++ came)).ended ≡ false

-- A read failed on the way to the end of the line that is held in h, which is no more than is kept of a line.
abbrev pub ReadFails : List ℕ → List ℕ → Type 0
ReadFails h line = kept h ≡ h → LineBroken h [] line

-- A read failed on the way to the end of the next line, which begins with what was left of the chunk.
abbrev pub NextFails : List ℕ → List ℕ → Type 0
NextFails left line = LineBroken [] left line
