-- Both cases of a test.
use Rattle.std.proofs.Common.{◌≡◌, Bool, true, false, refl}

-- what holds in both cases of a test holds
pub by_bool : (P : Bool → Type 0) (b : Bool) → (b ≡ true → P true) → (b ≡ false → P false) → P b
by_bool P true on off = on refl
by_bool P false on off = off refl
