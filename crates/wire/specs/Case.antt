-- What of an octet is the same in both cases of a letter: a quick look before two names are lowered.
use Rattle.std.specs.Prelude.{ℕ, ◌%◌, ◌≡◌}
use Rattle.std.specs.Fn.{Shared}

unfoldable pub caseless : ℕ → ℕ
caseless b = b % 32

-- What a closure gives of each octet is what f does.
pub record Gives {K : Type 0} (g : Shared K (ℕ × Unit {0}) ℕ) (key : K) (f : ℕ → ℕ) : Type 0 where
  pub each : (x y : ℕ) → g.post key (x, tt) y → y ≡ f x
