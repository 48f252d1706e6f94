-- What it says that the plain terminal could read a text.
use Rattle.std.proofs.Common.{◌≡◌, ℕ, Bool, true, false, cond, List, ◌++◌, Option, Some, None, refl, ap, sym, ◌∙◌, subst, IsUtf8}
use Rattle.std.specs.Prelude.{option_and_then}
use Rattle.std.specs.Str.{chars, is_utf8}
use Rattle.std.proofs.lemmas.Str.{chars-append, IsUtf8-append, IsUtf8-from_is_utf8}
use Rattle.mad_screen.specs.Grid.{Grid}
use Rattle.mad_screen.specs.Terminal.{Mode, Outside, Escape, Numbers, Reading, Leads, resting, settled, settled_in, feed_all, after_bytes}
use Rattle.mad_screen.proofs.Reading.{then_leads}
use Rattle.mad_screen.proofs.Paints.{read_leads}

none_is_some : {A B : Type 0} {a : A} → None ≡ Some a → B
none_is_some h = absurd (clash h)
  where
    clash : {A : Type 0} {a : A} → None ≡ Some a → ⊥
    clash e = cc

settled_ground : (m : Mode) (g new : Grid) → settled_in m g ≡ Some new → record { grid = g; mode = m } ≡ resting new
settled_ground Outside g new h = ap resting (inside h)
  where
    inside : Some g ≡ Some new → g ≡ new
    inside e = cc
settled_ground Escape g new h = none_is_some h
settled_ground (Numbers ps now) g new h = none_is_some h

ended : (o : Option Reading) (new : Grid) → option_and_then settled o ≡ Some new → o ≡ Some (resting new)
ended None new h = none_is_some h
ended (Some r) new h = ap Some (settled_ground r.mode r.grid new h)

tested : (t : Bool) (o : Option Grid) (new : Grid) → cond t o None ≡ Some new → t ≡ true
tested true o new h = refl
tested false o new h = none_is_some h

was_text : (g new : Grid) (bytes : List ℕ) → after_bytes g bytes ≡ Some new → is_utf8 bytes ≡ true
unfolding after_bytes
was_text g new bytes h = tested (is_utf8 bytes) (option_and_then settled (feed_all (chars bytes) (resting g))) new h

-- it was UTF-8, and its characters lead there
pub read_was : (g new : Grid) (bytes : List ℕ) → after_bytes g bytes ≡ Some new → IsUtf8 bytes × Leads (resting g) (chars bytes) (resting new)
unfolding after_bytes Leads
read_was g new bytes h =
    let text : is_utf8 bytes ≡ true = was_text g new bytes h in (
      IsUtf8-from_is_utf8 bytes text,
      ended (feed_all (chars bytes) (resting g)) new (ap (λ b. cond b (option_and_then settled (feed_all (chars bytes) (resting g))) None) (sym text) ∙ h),
    )

-- two texts that it could read in turn are one that it can read
pub read_in_turn : (g mid new : Grid) (a b : List ℕ) → after_bytes g a ≡ Some mid → after_bytes mid b ≡ Some new → after_bytes g (a ++ b) ≡ Some new
read_in_turn g mid new a b p q =
    let first : IsUtf8 a × Leads (resting g) (chars a) (resting mid) = read_was g mid a p in
    let then : IsUtf8 b × Leads (resting mid) (chars b) (resting new) = read_was mid new b q in
    read_leads g new (a ++ b) (IsUtf8-append a b first.0 then.0)
    (subst (λ (cs : List ℕ). Leads (resting g) cs (resting new)) (sym (chars-append a b first.0)) (then_leads (resting g) (resting mid) (resting new) (chars a) (chars b) first.1 then.1))
