-- The words of a call.
use Rattle.std.proofs.Common.{◌≡◌, ◌∙◌, List, ◌∷◌, ap, codes, map, option_map}
use Rattle.std.specs.Borrow.{Bor}
use Rattle.clap.specs.Words.{Text}
use Rattle.termimad_options.specs.Places.{place_said, words_left}
use Rattle.termimad_options.specs.declared.places.Parted.{Parted}
use Rattle.termimad_command.specs.Calls.{AreParted, words_behind}

pub words_parted : (args behind : List Text) (slice items : List (Bor Text)) (parted : Parted)
    → slice ≡ items → map (λ (word : Bor Text). word.now) items ≡ codes "termimad" ∷ behind → behind ≡ words_behind args
    → (parted.words.items ≡ words_left slice) × (parted.place ≡ place_said slice)
    → AreParted args (map (λ word. word.now) parted.words.items) (option_map (λ word. word.now) parted.place)
words_parted args behind slice items parted s e b h = record {
  words = slice;
  all = ap (map (λ (word : Bor Text). word.now)) s ∙ e ∙ ap (λ (words : List Text). codes "termimad" ∷ words) b;
  left = ap (map (λ (word : Bor Text). word.now)) h.0;
  said = ap (option_map (λ (word : Bor Text). word.now)) h.1;
}
