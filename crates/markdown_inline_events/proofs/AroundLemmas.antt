-- What is open around pieces.
use Rattle.std.proofs.Common.{◌≡◌, ℕ, Bool, true, false, if◌then◌else◌, List, [], ◌∷◌, ◌++◌, map, reverse, refl, sym, ap, subst, ◌∙◌, append_assoc}
use Rattle.std.proofs.lemmas.List.{append-nil, reverse-append}
use Rattle.markdown_inline_events.specs.declared.spans.Span.{Span}
use Rattle.markdown_inline_events.specs.Shares.{ShareContent, end_share, is_ending}
use Rattle.markdown_inline_events.specs.Spans.{ended, ends_at, still_open}

-- the innermost ends
record IsEnded (index : ℕ) (around rest : List Span) (span : Span) : Type 0 where
  ended : ended index around ≡ span ∷ ended index rest
  still : still_open index around ≡ still_open index rest

first_ended : (index : ℕ) (span : Span) (rest : List Span) → ends_at index span ≡ true → IsEnded index (span ∷ rest) rest span
first_ended index span rest h = record {
  ended = ap (λ (b : Bool). if b then span ∷ ended index rest else []) h;
  still = ap (λ (b : Bool). if b then still_open index rest else span ∷ rest) h;
}

last_first : (old rest : List Span) (span : Span) → old ≡ rest ++ span ∷ [] → reverse old ≡ span ∷ reverse rest
last_first old rest span e = ap reverse e ∙ reverse-append rest (span ∷ [])

-- the last ends, where the innermost is the last
popped : (index : ℕ) (old rest : List Span) (span : Span) → old ≡ rest ++ span ∷ [] → is_ending index (reverse old) ≡ true → IsEnded index (reverse old) (reverse rest) span
popped index old rest span e h =
    subst (λ (around : List Span). IsEnded index around (reverse rest) span) (sym (last_first old rest span e)) (first_ended index span (reverse rest) (sym (ap (is_ending index) (last_first old rest span e)) ∙ h))

-- one share more, and its end is told no more
pub shares_step : (index : ℕ) (old rest : List Span) (span : Span) (shares next all : List ShareContent) → old ≡ rest ++ span ∷ [] → is_ending index (reverse old) ≡ true → next ≡ shares ++ end_share span ∷ []
    → shares ++ map end_share (ended index (reverse old)) ≡ all → next ++ map end_share (ended index (reverse rest)) ≡ all
shares_step index old rest span shares next all e h n held =
    ap (λ (l : List ShareContent). l ++ map end_share (ended index (reverse rest))) n ∙ append_assoc shares (end_share span ∷ []) (map end_share (ended index (reverse rest)))
    ∙ ap (λ (l : List Span). shares ++ map end_share l) (sym (popped index old rest span e h).ended) ∙ held

-- the others are open still
pub around_step : (index : ℕ) (old rest : List Span) (span : Span) → old ≡ rest ++ span ∷ [] → is_ending index (reverse old) ≡ true → still_open index (reverse old) ≡ still_open index (reverse rest)
around_step index old rest span e h = (popped index old rest span e h).still

-- where the innermost doesn't end, nothing does
pub none_ended : (index : ℕ) (around : List Span) → is_ending index around ≡ false → (ended index around ≡ []) × (still_open index around ≡ around)
none_ended index [] h = (refl, refl)
none_ended index (span ∷ around) h = (ap (λ (b : Bool). if b then span ∷ ended index around else []) h, ap (λ (b : Bool). if b then still_open index around else span ∷ around) h)

parts : (b : Bool) (span : Span) (own others around : List Span) → own ++ others ≡ around → (if b then span ∷ own else []) ++ (if b then others else span ∷ around) ≡ span ∷ around
parts true span own others around e = ap (λ (l : List Span). span ∷ l) e
parts false span own others around e = refl

-- what ends, and then what is open still, is what was open
pub around_parts : (index : ℕ) (around : List Span) → ended index around ++ still_open index around ≡ around
around_parts index [] = refl
around_parts index (span ∷ around) = parts (ends_at index span) span (ended index around) (still_open index around) around (around_parts index around)

-- all shares are there
pub shares_end : (index : ℕ) (around : List Span) (shares all : List ShareContent) → is_ending index around ≡ false → shares ++ map end_share (ended index around) ≡ all → shares ≡ all
shares_end index around shares all h held = sym (append-nil shares) ∙ ap (λ (l : List Span). shares ++ map end_share l) (sym (none_ended index around h).0) ∙ held
