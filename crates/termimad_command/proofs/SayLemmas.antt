-- What is said.
use Rattle.std.proofs.Common.{◌≡◌, ◌∙◌, ℕ, List, String, string_bytes, subst, sym}
use Rattle.std.specs.declared.alloc.Global.{Global}
use Rattle.mad_term.specs.Trace.{Trace}
use Rattle.termimad_words.specs.Failures.{SaysOnce}
use Rattle.termimad_command.specs.Notices.{SaysNotices}
use Rattle.termimad_command.specs.Refusals.{Says}
use Rattle.termimad_command.specs.declared.refusals.Refusal.{Refusal}
use Rattle.termimad_command.specs.declared.refusals.Refusal.TheVariants.{Mistaken, FaultySkin}

-- the same text is said
pub same_said : (old new : Trace) (shown text : List ℕ) → shown ≡ text → SaysOnce old shown new → SaysOnce old text new
same_said old new shown text e h = subst (λ (text : List ℕ). SaysOnce old text new) e h

-- what is wrong with the words is said
pub mistake_said : (refusal : Refusal) (text : String Global) (shown : List ℕ) (old new : Trace) → refusal ≡ Mistaken text → shown ≡ string_bytes text
    → SaysOnce old shown new → Says refusal old new
mistake_said refusal text shown old new is e h =
    subst (λ (refusal : Refusal). Says refusal old new) (sym is) (subst (λ (text : List ℕ). SaysOnce old text new) e h)

-- what is wrong with the text of a skin is said
pub fault_told : (refusal : Refusal) (line : String Global) (shown : List ℕ) (old new : Trace) → refusal ≡ FaultySkin line → shown ≡ string_bytes line
    → SaysOnce old shown new → Says refusal old new
fault_told refusal line shown old new is e h =
    subst (λ (refusal : Refusal). Says refusal old new) (sym is) (subst (λ (text : List ℕ). SaysOnce old text new) e h)

-- a refusal is said
pub refusal_said : (refusal given : Refusal) (old new : Trace) → refusal ≡ given → Says given old new → Says refusal old new
refusal_said refusal given old new is h = subst (λ (refusal : Refusal). Says refusal old new) (sym is) h

-- what isn't known is said
pub notices_said : (old new : Trace) (shown lines text : List ℕ) → shown ≡ lines → lines ≡ text → SaysNotices shown old new → SaysNotices text old new
notices_said old new shown lines text s l h = subst (λ (text : List ℕ). SaysNotices text old new) (s ∙ l) h
