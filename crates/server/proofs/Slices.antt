-- What owning a slice of bytes tells of its bytes.
use Prim.Native.Nat.{ℕ, suc, ◌<◌}
use mathlib.Core.Bool.{true}
use mathlib.Core.List.{List, [], ◌∷◌}
use mathlib.Core.Path.{◌≡◌, refl}
use lib.ListN.{get_or}
use lib.Pow.{are_bytes}
use borrow.Author.Tests.{lt-ltb}

pub bytes_small : (l : List ℕ) → ((i : ℕ) → get_or l i 0 < 256) → are_bytes l ≡ true
bytes_small [] h = refl
bytes_small (x ∷ l) h = rw (lt-ltb x 256 (h 0)) (bytes_small l (λ i. h (suc i)))
