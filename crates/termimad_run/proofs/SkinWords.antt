-- The words ask for one skin at most.
use Rattle.std.proofs.Common.{◌≡◌, ◌≢◌, ℕ, Bool, true, false, List, [], ◌∷◌, length, get_or, ◌⊎◌, Option, Some, None, option_map, inl, inr, Ok, Err, refl, ap, sym, ◌∙◌, subst, arith}
use Rattle.mad_layout.specs.declared.MadSkin.{MadSkin}
use Rattle.mad_page_skin.specs.declared.page_skin.PageSkin.{PageSkin}
use Rattle.termimad_run.specs.declared.call.Command.{Command}
use Rattle.termimad_run.specs.declared.call.Command.TheVariants.{InArea, AtWidth, AsMarkdown, AsCode, AsItComes, MarkdownAsItComes, Live, LiveMarkdown, Inline}
use Rattle.termimad_words.specs.declared.failure.Failure.{Failure}
use Rattle.termimad_words.specs.declared.failure.Failure.TheVariants.{Io, Usage, NotUtf8, Skin, Memory}
use Rattle.mad_term.specs.Trace.{Trace}
use Rattle.termimad_run.specs.ShownSkins.{as_page, skin_shown, IsJsonShown}
use Rattle.termimad_words.specs.GivenSkins.{made_or_json, made_or_json_page, page_skin_named, skin_named}
use Rattle.termimad_run.specs.Calls.{IsCall, IsSkinWord, Asks, AsksJson, AsksRefusedSkin, shows_page}
use Rattle.mad_stream.specs.declared.SourceError.{SourceError}
use Rattle.mad_stream.specs.declared.SourceError.TheVariants as source_error
use Rattle.termimad_run.specs.StreamFailures.{streamed_failure}
use Rattle.termimad_words.specs.Failures.{status_of}
use Rattle.termimad_run.specs.ProgramRuns.{Devices, Started, RunsWhole, RunsTo}

one_word : (words : List (List ℕ)) (a b : Option (List ℕ)) → IsSkinWord words a → IsSkinWord words b → a ≡ b
one_word [] a b h k = h ∙ sym k
one_word (given ∷ []) a b h k = h ∙ sym k
one_word (given ∷ next ∷ more) a b h k = absurd h

first_byte : (m n : ℕ) (name xs ys : List ℕ) → name ≡ m ∷ xs → name ≡ n ∷ ys → m ≡ n
first_byte m n name xs ys h k = ap (λ (l : List ℕ). get_or l 0 0) (sym h ∙ k)

asked_once : (words : List (List ℕ)) (c d : Command) (a b : Option (List ℕ)) → Asks words c a → Asks words d b → (a ≡ b) × (shows_page c ≡ shows_page d)
asked_once [] c d a b h k = absurd h
asked_once (name ∷ l ∷ t ∷ w ∷ e ∷ rest) (InArea x) (InArea y) a b h k = (one_word rest a b h.1.1 k.1.1, refl)
asked_once (name ∷ words) (InArea x) (AtWidth m) a b h k = absurd (let e : 97 ≡ 116 = first_byte 97 116 name _ _ h.0 k.0 in omega (arith, e))
asked_once (name ∷ words) (InArea x) (AsMarkdown m) a b h k = absurd (let e : 97 ≡ 109 = first_byte 97 109 name _ _ h.0 k.0 in omega (arith, e))
asked_once (name ∷ words) (InArea x) (AsItComes m) a b h k = absurd (let e : 97 ≡ 115 = first_byte 97 115 name _ _ h.0 k.0 in omega (arith, e))
asked_once (name ∷ words) (InArea x) Inline a b h k = absurd (let e : 97 ≡ 105 = first_byte 97 105 name _ _ h.0 k.0 in omega (arith, e))
asked_once (name ∷ words) (AtWidth n) (InArea y) a b h k = absurd (let e : 116 ≡ 97 = first_byte 116 97 name _ _ h.0 k.0 in omega (arith, e))
asked_once (name ∷ w ∷ rest) (AtWidth n) (AtWidth m) a b h k = (one_word rest a b h.1.1 k.1.1, refl)
asked_once (name ∷ words) (AtWidth n) (AsMarkdown m) a b h k = absurd (let e : 116 ≡ 109 = first_byte 116 109 name _ _ h.0 k.0 in omega (arith, e))
asked_once (name ∷ words) (AtWidth n) (AsItComes m) a b h k = absurd (let e : 116 ≡ 115 = first_byte 116 115 name _ _ h.0 k.0 in omega (arith, e))
asked_once (name ∷ words) (AtWidth n) Inline a b h k = absurd (let e : 116 ≡ 105 = first_byte 116 105 name _ _ h.0 k.0 in omega (arith, e))
asked_once (name ∷ words) (AsMarkdown n) (InArea y) a b h k = absurd (let e : 109 ≡ 97 = first_byte 109 97 name _ _ h.0 k.0 in omega (arith, e))
asked_once (name ∷ words) (AsMarkdown n) (AtWidth m) a b h k = absurd (let e : 109 ≡ 116 = first_byte 109 116 name _ _ h.0 k.0 in omega (arith, e))
asked_once (name ∷ w ∷ rest) (AsMarkdown n) (AsMarkdown m) a b h k = (one_word rest a b h.1.1 k.1.1, refl)
asked_once (name ∷ words) (AsMarkdown n) (AsItComes m) a b h k = absurd (let e : 109 ≡ 115 = first_byte 109 115 name _ _ h.0 k.0 in omega (arith, e))
asked_once (name ∷ words) (AsMarkdown n) Inline a b h k = absurd (let e : 109 ≡ 105 = first_byte 109 105 name _ _ h.0 k.0 in omega (arith, e))
asked_once (name ∷ words) (AsItComes n) (InArea y) a b h k = absurd (let e : 115 ≡ 97 = first_byte 115 97 name _ _ h.0 k.0 in omega (arith, e))
asked_once (name ∷ words) (AsItComes n) (AtWidth m) a b h k = absurd (let e : 115 ≡ 116 = first_byte 115 116 name _ _ h.0 k.0 in omega (arith, e))
asked_once (name ∷ words) (AsItComes n) (AsMarkdown m) a b h k = absurd (let e : 115 ≡ 109 = first_byte 115 109 name _ _ h.0 k.0 in omega (arith, e))
asked_once (name ∷ w ∷ rest) (AsItComes n) (AsItComes m) a b h k = (one_word rest a b h.1.1 k.1.1, refl)
asked_once (name ∷ words) (AsItComes n) Inline a b h k = absurd (let e : 115 ≡ 105 = first_byte 115 105 name _ _ h.0 k.0 in omega (arith, e))
asked_once (name ∷ words) Inline (InArea y) a b h k = absurd (let e : 105 ≡ 97 = first_byte 105 97 name _ _ h.0 k.0 in omega (arith, e))
asked_once (name ∷ words) Inline (AtWidth m) a b h k = absurd (let e : 105 ≡ 116 = first_byte 105 116 name _ _ h.0 k.0 in omega (arith, e))
asked_once (name ∷ words) Inline (AsMarkdown m) a b h k = absurd (let e : 105 ≡ 109 = first_byte 105 109 name _ _ h.0 k.0 in omega (arith, e))
asked_once (name ∷ words) Inline (AsItComes m) a b h k = absurd (let e : 105 ≡ 115 = first_byte 105 115 name _ _ h.0 k.0 in omega (arith, e))
asked_once (name ∷ words) Inline Inline a b h k = (one_word words a b h.1 k.1, refl)
asked_once (name ∷ words) (InArea x) (Live m y) a b h k = absurd (let e : 97 ≡ 108 = first_byte 97 108 name _ _ h.0 k.0 in omega (arith, e))
asked_once (name ∷ words) (AtWidth n) (Live m y) a b h k = absurd (let e : 116 ≡ 108 = first_byte 116 108 name _ _ h.0 k.0 in omega (arith, e))
asked_once (name ∷ words) (AsMarkdown n) (Live m y) a b h k = absurd (let e : 109 ≡ 108 = first_byte 109 108 name _ _ h.0 k.0 in omega (arith, e))
asked_once (name ∷ words) (AsItComes n) (Live m y) a b h k = absurd (let e : 115 ≡ 108 = first_byte 115 108 name _ _ h.0 k.0 in omega (arith, e))
asked_once (name ∷ words) (Live n x) (InArea y) a b h k = absurd (let e : 108 ≡ 97 = first_byte 108 97 name _ _ h.0 k.0 in omega (arith, e))
asked_once (name ∷ words) (Live n x) (AtWidth m) a b h k = absurd (let e : 108 ≡ 116 = first_byte 108 116 name _ _ h.0 k.0 in omega (arith, e))
asked_once (name ∷ words) (Live n x) (AsMarkdown m) a b h k = absurd (let e : 108 ≡ 109 = first_byte 108 109 name _ _ h.0 k.0 in omega (arith, e))
asked_once (name ∷ words) (Live n x) (AsItComes m) a b h k = absurd (let e : 108 ≡ 115 = first_byte 108 115 name _ _ h.0 k.0 in omega (arith, e))
asked_once (name ∷ words) Inline (Live m y) a b h k = absurd (let e : 105 ≡ 108 = first_byte 105 108 name _ _ h.0 k.0 in omega (arith, e))
asked_once (name ∷ words) (Live n x) Inline a b h k = absurd (let e : 108 ≡ 105 = first_byte 108 105 name _ _ h.0 k.0 in omega (arith, e))
asked_once (name ∷ w ∷ t ∷ rest) (Live n x) (Live m y) a b h k = (one_word rest a b h.1.2 k.1.2, refl)
asked_once (name ∷ words) (InArea x) (MarkdownAsItComes k) a b h i = absurd (let e : 97 ≡ 109 = first_byte 97 109 name _ _ h.0 i.0 in omega (arith, e))
asked_once (name ∷ words) (MarkdownAsItComes k) (InArea y) a b h i = absurd (let e : 109 ≡ 97 = first_byte 109 97 name _ _ h.0 i.0 in omega (arith, e))
asked_once (name ∷ words) (AtWidth n) (MarkdownAsItComes k) a b h i = absurd (let e : 116 ≡ 109 = first_byte 116 109 name _ _ h.0 i.0 in omega (arith, e))
asked_once (name ∷ words) (MarkdownAsItComes k) (AtWidth m) a b h i = absurd (let e : 109 ≡ 116 = first_byte 109 116 name _ _ h.0 i.0 in omega (arith, e))
asked_once (name ∷ words) (AsItComes n) (MarkdownAsItComes k) a b h i = absurd (let e : 115 ≡ 109 = first_byte 115 109 name _ _ h.0 i.0 in omega (arith, e))
asked_once (name ∷ words) (MarkdownAsItComes k) (AsItComes m) a b h i = absurd (let e : 109 ≡ 115 = first_byte 109 115 name _ _ h.0 i.0 in omega (arith, e))
asked_once (name ∷ words) Inline (MarkdownAsItComes k) a b h i = absurd (let e : 105 ≡ 109 = first_byte 105 109 name _ _ h.0 i.0 in omega (arith, e))
asked_once (name ∷ words) (MarkdownAsItComes k) Inline a b h i = absurd (let e : 109 ≡ 105 = first_byte 109 105 name _ _ h.0 i.0 in omega (arith, e))
asked_once (name ∷ words) (Live n x) (MarkdownAsItComes k) a b h i = absurd (let e : 108 ≡ 109 = first_byte 108 109 name _ _ h.0 i.0 in omega (arith, e))
asked_once (name ∷ words) (MarkdownAsItComes k) (Live m y) a b h i = absurd (let e : 109 ≡ 108 = first_byte 109 108 name _ _ h.0 i.0 in omega (arith, e))
asked_once (name ∷ words) (AsMarkdown n) (MarkdownAsItComes k) a b h i = absurd (let e : 8 ≡ 15 = ap length (sym h.0 ∙ i.0) in omega (arith, e))
asked_once (name ∷ words) (MarkdownAsItComes k) (AsMarkdown m) a b h i = absurd (let e : 15 ≡ 8 = ap length (sym h.0 ∙ i.0) in omega (arith, e))
asked_once (name ∷ w ∷ rest) (MarkdownAsItComes n) (MarkdownAsItComes m) a b h k = (one_word rest a b h.1.1 k.1.1, refl)
asked_once (name ∷ words) (InArea x) (AsCode u v) a b h k = absurd (let e : 97 ≡ 99 = first_byte 97 99 name _ _ h.0 k.0 in omega (arith, e))
asked_once (name ∷ words) (AsCode u v) (InArea y) a b h k = absurd (let e : 99 ≡ 97 = first_byte 99 97 name _ _ h.0 k.0 in omega (arith, e))
asked_once (name ∷ words) (AtWidth n) (AsCode u v) a b h k = absurd (let e : 116 ≡ 99 = first_byte 116 99 name _ _ h.0 k.0 in omega (arith, e))
asked_once (name ∷ words) (AsCode u v) (AtWidth m) a b h k = absurd (let e : 99 ≡ 116 = first_byte 99 116 name _ _ h.0 k.0 in omega (arith, e))
asked_once (name ∷ words) (AsMarkdown n) (AsCode u v) a b h k = absurd (let e : 109 ≡ 99 = first_byte 109 99 name _ _ h.0 k.0 in omega (arith, e))
asked_once (name ∷ words) (AsCode u v) (AsMarkdown m) a b h k = absurd (let e : 99 ≡ 109 = first_byte 99 109 name _ _ h.0 k.0 in omega (arith, e))
asked_once (name ∷ words) (AsItComes n) (AsCode u v) a b h k = absurd (let e : 115 ≡ 99 = first_byte 115 99 name _ _ h.0 k.0 in omega (arith, e))
asked_once (name ∷ words) (AsCode u v) (AsItComes m) a b h k = absurd (let e : 99 ≡ 115 = first_byte 99 115 name _ _ h.0 k.0 in omega (arith, e))
asked_once (name ∷ words) (MarkdownAsItComes n) (AsCode u v) a b h k = absurd (let e : 109 ≡ 99 = first_byte 109 99 name _ _ h.0 k.0 in omega (arith, e))
asked_once (name ∷ words) (AsCode u v) (MarkdownAsItComes m) a b h k = absurd (let e : 99 ≡ 109 = first_byte 99 109 name _ _ h.0 k.0 in omega (arith, e))
asked_once (name ∷ words) (Live n x) (AsCode u v) a b h k = absurd (let e : 108 ≡ 99 = first_byte 108 99 name _ _ h.0 k.0 in omega (arith, e))
asked_once (name ∷ words) (AsCode u v) (Live m y) a b h k = absurd (let e : 99 ≡ 108 = first_byte 99 108 name _ _ h.0 k.0 in omega (arith, e))
asked_once (name ∷ words) Inline (AsCode u v) a b h k = absurd (let e : 105 ≡ 99 = first_byte 105 99 name _ _ h.0 k.0 in omega (arith, e))
asked_once (name ∷ words) (AsCode u v) Inline a b h k = absurd (let e : 99 ≡ 105 = first_byte 99 105 name _ _ h.0 k.0 in omega (arith, e))
asked_once (name ∷ l ∷ w ∷ rest) (AsCode u v) (AsCode x y) a b h k = (one_word rest a b h.1.1.1 k.1.1.1, refl)
asked_once (name ∷ l ∷ []) (AsCode u v) (AsCode x y) a b h k = absurd h.1.1
asked_once (name ∷ words) (InArea x) (LiveMarkdown i j) a b h k = absurd (let e : 97 ≡ 108 = first_byte 97 108 name _ _ h.0 k.0 in omega (arith, e))
asked_once (name ∷ words) (LiveMarkdown i j) (InArea y) a b h k = absurd (let e : 108 ≡ 97 = first_byte 108 97 name _ _ h.0 k.0 in omega (arith, e))
asked_once (name ∷ words) (AtWidth n) (LiveMarkdown i j) a b h k = absurd (let e : 116 ≡ 108 = first_byte 116 108 name _ _ h.0 k.0 in omega (arith, e))
asked_once (name ∷ words) (LiveMarkdown i j) (AtWidth m) a b h k = absurd (let e : 108 ≡ 116 = first_byte 108 116 name _ _ h.0 k.0 in omega (arith, e))
asked_once (name ∷ words) (AsMarkdown n) (LiveMarkdown i j) a b h k = absurd (let e : 109 ≡ 108 = first_byte 109 108 name _ _ h.0 k.0 in omega (arith, e))
asked_once (name ∷ words) (LiveMarkdown i j) (AsMarkdown m) a b h k = absurd (let e : 108 ≡ 109 = first_byte 108 109 name _ _ h.0 k.0 in omega (arith, e))
asked_once (name ∷ words) (AsCode u v) (LiveMarkdown i j) a b h k = absurd (let e : 99 ≡ 108 = first_byte 99 108 name _ _ h.0 k.0 in omega (arith, e))
asked_once (name ∷ words) (LiveMarkdown i j) (AsCode u v) a b h k = absurd (let e : 108 ≡ 99 = first_byte 108 99 name _ _ h.0 k.0 in omega (arith, e))
asked_once (name ∷ words) (AsItComes n) (LiveMarkdown i j) a b h k = absurd (let e : 115 ≡ 108 = first_byte 115 108 name _ _ h.0 k.0 in omega (arith, e))
asked_once (name ∷ words) (LiveMarkdown i j) (AsItComes m) a b h k = absurd (let e : 108 ≡ 115 = first_byte 108 115 name _ _ h.0 k.0 in omega (arith, e))
asked_once (name ∷ words) (MarkdownAsItComes n) (LiveMarkdown i j) a b h k = absurd (let e : 109 ≡ 108 = first_byte 109 108 name _ _ h.0 k.0 in omega (arith, e))
asked_once (name ∷ words) (LiveMarkdown i j) (MarkdownAsItComes m) a b h k = absurd (let e : 108 ≡ 109 = first_byte 108 109 name _ _ h.0 k.0 in omega (arith, e))
asked_once (name ∷ words) Inline (LiveMarkdown i j) a b h k = absurd (let e : 105 ≡ 108 = first_byte 105 108 name _ _ h.0 k.0 in omega (arith, e))
asked_once (name ∷ words) (LiveMarkdown i j) Inline a b h k = absurd (let e : 108 ≡ 105 = first_byte 108 105 name _ _ h.0 k.0 in omega (arith, e))
asked_once (name ∷ words) (Live n x) (LiveMarkdown i j) a b h k = absurd (let e : 4 ≡ 13 = ap length (sym h.0 ∙ k.0) in omega (arith, e))
asked_once (name ∷ words) (LiveMarkdown i j) (Live m y) a b h k = absurd (let e : 13 ≡ 4 = ap length (sym h.0 ∙ k.0) in omega (arith, e))
asked_once (name ∷ w ∷ t ∷ rest) (LiveMarkdown n x) (LiveMarkdown m y) a b h k = (one_word rest a b h.1.2 k.1.2, refl)
asked_once _ _ _ a b h k = absurd h.1

known_skin : (is_page : Bool) (word : Option (List ℕ)) (given : PageSkin × List (List ℕ)) → skin_shown is_page word ≡ Some given → skin_shown is_page word ≡ None → ⊥
known_skin is_page word given h refused = let both : Some given ≡ None = sym h ∙ refused in cc

-- a run that has started was asked for no skin that is refused
pub never : (words : List (List ℕ)) (old new : Trace) → Started words old new → AsksRefusedSkin words → ⊥
never words old new call h =
    let asked = call.asked.asked in
    let same = asked_once words h.0 call.command h.1 asked.word h.2 asked.asks in
    known_skin (shows_page call.command) asked.word (call.skin, call.unknown) asked.given
    (subst (λ (is_page : Bool). skin_shown is_page asked.word ≡ None) same.1 (subst (λ (word : Option (List ℕ)). skin_shown (shows_page h.0) word ≡ None) same.0 h.3))

-- a failure has the status of a refused skin only where the words ask for one
whole_exit : (words : List (List ℕ)) (failure : Failure) (old new : Devices) → RunsWhole {T = Unit {0}} words old (Err failure) new → status_of failure ≡ 4 → AsksRefusedSkin words
whole_exit words Skin old new h e = h.0
whole_exit words _ old new h e = absurd (omega (arith, e))

streamed_status : (e : SourceError) → status_of (streamed_failure e) ≡ 4 → ⊥
streamed_status (source_error.Source e) h = omega (arith, h)
streamed_status (source_error.Device e) h = omega (arith, h)
streamed_status source_error.NotUtf8 h = omega (arith, h)
streamed_status source_error.Memory h = omega (arith, h)

-- an end with status 4 was asked for a refused skin
pub skin_exit : (words : List (List ℕ)) (failure : Failure) (old new : Devices) → RunsTo {T = Unit {0}} words old (Err failure) new → status_of failure ≡ 4 → AsksRefusedSkin words
skin_exit words failure old new (inl h) e = whole_exit words failure old new h e
skin_exit words failure old new (inr (source, is, h)) e = absurd (streamed_status source (ap status_of is ∙ e))

-- words that ask for such a skin end so, or out of memory
whole_refused : (words : List (List ℕ)) (failure : Failure) (old new : Devices) → RunsWhole {T = Unit {0}} words old (Err failure) new → AsksRefusedSkin words → (status_of failure ≡ 4) ⊎ (status_of failure ≡ 5)
whole_refused words Usage old new h asks = absurd (h.0 asks.0 asks.1 asks.2)
whole_refused words Skin old new h asks = inl refl
whole_refused words NotUtf8 old new h asks = absurd (never words _ _ h.call asks)
whole_refused words Io old new (inl h) asks = absurd (never words _ _ h.call asks)
whole_refused words Io old new (inr (inl h)) asks = absurd (never words _ _ h.wrote.call asks)
whole_refused words Io old new (inr (inr h)) asks = absurd (never words _ _ h.wrote.call asks)
whole_refused words Memory old new h asks = inr refl

-- a refused skin ends with status 4, or with 5 where there is no memory
pub refused_exit : (words : List (List ℕ)) (failure : Failure) (old new : Devices) → RunsTo {T = Unit {0}} words old (Err failure) new → AsksRefusedSkin words → (status_of failure ≡ 4) ⊎ (status_of failure ≡ 5)
refused_exit words failure old new (inl h) asks = whole_refused words failure old new h asks
refused_exit words failure old new (inr (source, is, h)) asks = absurd (never words _ _ h.call asks)

-- a run that is done was asked for no skin that is refused
pub done_call : (words : List (List ℕ)) (old new : Devices) → RunsTo {T = Unit {0}} words old (Ok (tt {0})) new → AsksRefusedSkin words → ⊥
done_call words old new (inl h) asks = never words _ _ h.wrote.call asks
done_call words old new (inr h) asks = never words _ _ h.call asks

abbrev keys_of : Option (PageSkin × List (List ℕ)) → List (List ℕ)
keys_of None = []
keys_of (Some given) = given.1

named_page : (named : Option PageSkin) (word : List ℕ) (skin : PageSkin) (unknown : List (List ℕ)) → made_or_json_page named word ≡ Some (skin, unknown) → unknown ≢ [] → named ≡ None
named_page None word skin unknown h more = refl
named_page (Some made) word skin unknown h more = absurd (more (sym (ap keys_of h)))

named_text : (named : Option MadSkin) (word : List ℕ) (skin : PageSkin) (unknown : List (List ℕ)) → option_map as_page (made_or_json named word) ≡ Some (skin, unknown) → unknown ≢ [] → named ≡ None
named_text None word skin unknown h more = refl
named_text (Some made) word skin unknown h more = absurd (more (sym (ap keys_of h)))

-- a skin that has keys which name no part is JSON text
json_shown : (is_page : Bool) (word : Option (List ℕ)) (skin : PageSkin) (unknown : List (List ℕ)) → skin_shown is_page word ≡ Some (skin, unknown) → unknown ≢ [] → IsJsonShown is_page word
json_shown true None skin unknown h more = absurd (more (sym (ap keys_of h)))
json_shown true (Some word) skin unknown h more = named_page (page_skin_named word) word skin unknown h more
json_shown false None skin unknown h more = absurd (more (sym (ap keys_of h)))
json_shown false (Some word) skin unknown h more = named_text (skin_named word) word skin unknown h more

-- so is that of a call that has such keys
pub json_asked : (words : List (List ℕ)) (command : Command) (skin : PageSkin) (unknown : List (List ℕ)) → IsCall words command skin unknown → unknown ≢ [] → AsksJson words
json_asked words command skin unknown call more = (command, call.word, call.asks, json_shown (shows_page command) call.word skin unknown call.given more)
