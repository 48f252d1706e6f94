-- Offers, one after the other.
use Rattle.std.proofs.Common.{◌≡◌, ◌<◌, ◌+◌, ℕ, List, [], ◌∷◌, ◌++◌, Option, Bool, length, get_or, map, take, string_bytes, refl, ap, subst, sym, ◌∙◌, append_assoc}
use Rattle.std.proofs.lemmas.List.{append-nil, map-append, take_more, take-map}
use Rattle.mad_ask.specs.declared.choices.Answer.{Answer}
use Rattle.mad_draw.specs.Pieces.{pieces_bytes}
use Rattle.mad_rows.specs.Rows.{free_pieces}
use Rattle.mad_rows.specs.declared.row_skin.RowSkin.{RowSkin}
use Rattle.mad_style.specs.declared.kinds.CompositeKind.TheVariants.{Paragraph}
use Rattle.mad_ask.specs.Questions.{Offer}
use Rattle.mad_ask.specs.QuestionTexts.{AreOffers, IsText, bracketed_runs, is_default_key}

-- what is written of a key
abbrev pub key_bytes : RowSkin → Option (List ℕ) → Offer → List ℕ
key_bytes skin default offer = pieces_bytes (free_pieces skin Paragraph (bracketed_runs (is_default_key default offer.key) offer.key))

-- one offer more
pub offers_more : (skin : RowSkin) (width : Option ℕ) (default : Option (List ℕ)) (offers : List Offer) (offer : Offer) (bytes text : List ℕ) → AreOffers skin width default offers bytes → IsText skin width offer.md text → AreOffers skin width default (offers ++ offer ∷ []) (bytes ++ (key_bytes skin default offer ++ text))
offers_more skin width default [] offer bytes text h is =
    (text, [], is, refl, ap (λ (bs : List ℕ). bs ++ (key_bytes skin default offer ++ text)) h ∙ ap (λ (bs : List ℕ). key_bytes skin default offer ++ bs) (sym (append-nil text)))
offers_more skin width default (o ∷ os) offer bytes text h is =
    let key = key_bytes skin default o in
    let more = key_bytes skin default offer ++ text in
    let joined : bytes ++ more ≡ key ++ (h.0 ++ (h.1 ++ more)) = ap (λ (bs : List ℕ). bs ++ more) h.4 ∙ append_assoc key (h.0 ++ h.1) more ∙ ap (λ (bs : List ℕ). key ++ bs) (append_assoc h.0 h.1 more) in
    (h.0, h.1 ++ more, h.2, offers_more skin width default os offer h.1 text h.3 is, joined)

-- an answer as an offer
abbrev pub offer_of : Answer → Offer
offer_of answer = record { key = string_bytes answer.key; md = string_bytes answer.md }

-- the offers of one answer more
pub taken_more : (answers : List Answer) (i : ℕ) (x : Answer) → i < length answers → x ≡ get_or answers i x → take (i + 1) (map offer_of answers) ≡ take i (map offer_of answers) ++ offer_of x ∷ []
taken_more answers i x h is =
    take-map offer_of (i + 1) answers
    ∙ ap (λ (xs : List Answer). map offer_of xs) (take_more answers i x h)
    ∙ map-append offer_of (take i answers) (get_or answers i x ∷ [])
    ∙ ap (λ (os : List Offer). os ++ offer_of (get_or answers i x) ∷ []) (sym (take-map offer_of i answers))
    ∙ ap (λ (y : Answer). take i (map offer_of answers) ++ offer_of y ∷ []) (sym is)

-- the bytes of a key
abbrev pub bracketed_bytes : RowSkin → Bool → List ℕ → List ℕ
bracketed_bytes skin bold key = pieces_bytes (free_pieces skin Paragraph (bracketed_runs bold key))

-- the bytes of offers were written after `old`
abbrev pub HasOffers : RowSkin → Option ℕ → Option (List ℕ) → List Offer → List ℕ → List ℕ → Type 0
HasOffers skin width default offers old new = (offered : List ℕ) × AreOffers skin width default offers offered × (new ≡ old ++ offered)

-- one answer more was written
pub offer_written : (skin : RowSkin) (width : Option ℕ) (default : Option (List ℕ)) (answers : List Answer) (i : ℕ) (x : Answer) (bold : Bool) (key md old bytes mid new text : List ℕ) → i < length answers → x ≡ get_or answers i x → bold ≡ is_default_key default (string_bytes x.key) → key ≡ string_bytes x.key → md ≡ string_bytes x.md → HasOffers skin width default (take i (map offer_of answers)) old bytes → mid ≡ bytes ++ bracketed_bytes skin bold key → IsText skin width md text → new ≡ mid ++ text → HasOffers skin width default (take (i + 1) (map offer_of answers)) old new
offer_written skin width default answers i x bold key md old bytes mid new text h is is_bold is_key is_md has p of_md q =
    let own = key_bytes skin default (offer_of x) in
    let front = take i (map offer_of answers) in
    let is_text : IsText skin width (string_bytes x.md) text = subst (λ (m : List ℕ). IsText skin width m text) is_md of_md in
    let more : AreOffers skin width default (front ++ offer_of x ∷ []) (has.0 ++ (own ++ text)) = offers_more skin width default front (offer_of x) has.0 text has.1 is_text in
    let as_key : mid ≡ bytes ++ own = p ∙ ap (λ (b : Bool). bytes ++ bracketed_bytes skin b key) is_bold ∙ ap (λ (k : List ℕ). bytes ++ bracketed_bytes skin (is_default_key default (string_bytes x.key)) k) is_key in
    let whole : new ≡ old ++ (has.0 ++ (own ++ text)) =
    q ∙ ap (λ (bs : List ℕ). bs ++ text) as_key ∙ append_assoc bytes own text ∙ ap (λ (bs : List ℕ). bs ++ (own ++ text)) has.2 ∙ append_assoc old has.0 (own ++ text) in
    (has.0 ++ (own ++ text), subst (λ (os : List Offer). AreOffers skin width default os (has.0 ++ (own ++ text))) (sym (taken_more answers i x h is)) more, whole)
