-- What a terminal that scrolls shows of what was put in a device that sends only what changes.
use Rattle.std.specs.Prelude.{◌≡◌, ℕ, true, List, ◌++◌, Some, IfSome}
use Rattle.mad_screen.specs.Grid.{Grid, empty_grid}
use Rattle.mad_screen.specs.Terminal.{after_bytes}
use Rattle.mad_frames.specs.Mending.{mended}
use Rattle.mad_frames.specs.Scrolling.{Bring, ReadsTo}
use Rattle.mad_frames.specs.Sparing.{Spared, IsFlushed, IsSparing}

-- All that was put ends with a text that leads the plain terminal, blank at first, to a screen. All that the device below took ends with bytes that
-- lead a terminal that scrolls to that screen, whatever it showed before, each half of a wide character as a space.
pub record IsShown (s : Spared) (taken : List ℕ) (screen : Grid) : Type 0 where
  pub before : List ℕ
  pub since : List ℕ
  pub put : s.told ≡ before ++ since
  pub read : after_bytes (empty_grid screen.width screen.height) since ≡ Some screen
  pub earlier : List ℕ
  pub sent : List ℕ
  pub took : taken ≡ earlier ++ sent
  pub shows : Bring (mended screen) sent

-- After a flush without a fault the screen is shown that is known then: the plain terminal's, once it has read what was put. A terminal that scrolls reads
-- what the plain terminal reads, and one text after another.
pub record ShowsWhatWasPut : Type 0 where
  pub shown : (old new : Spared) → IsFlushed old new → IsSparing new → new.known ≡ true → IfSome new.below.bytes (λ taken. IsShown new taken new.screen)
  pub plain : (g new : Grid) (bytes : List ℕ) → after_bytes g bytes ≡ Some new → ReadsTo g bytes new
  pub in_turn : (g mid new : Grid) (a b : List ℕ) → ReadsTo g a mid → ReadsTo mid b new → ReadsTo g (a ++ b) new
