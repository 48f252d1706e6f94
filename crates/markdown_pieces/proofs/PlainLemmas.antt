-- Bytes that stand for themselves.
use Rattle.std.proofs.Common.{◌≡◌, ℕ, suc, ◌+◌, ◌<◌, ◌≤◌, ⊎_elim, zero, Bool, true, false, cond, eqb, not, ◌||◌, ◌&&◌, List, [], ◌∷◌, length, drop, get_or, refl, sym, ap, ap₂, ◌∙◌, arith, Option, Some, None, codes, is_some}
use Rattle.std.specs.List.{prefix_len}
use Rattle.std.proofs.lemmas.Bool.{cases_lt, and_parts}
use Rattle.std.proofs.lemmas.Bool.Decides.{nat_tests}
use Rattle.std.proofs.lemmas.List.{get_or-drop}
use Rattle.memchr.specs.Find.{Nowhere, Passes, is_byte}
use Rattle.markdown_marks.specs.Bytes.{first, is_blank_byte}
use Rattle.markdown_addresses.specs.declared.bare.Bare.{Bare}
use Rattle.markdown_addresses.specs.Bare.{web_of, mail_of, is_in_front, may_precede_www, may_precede_web, may_precede_mail, or_bare, bare_after, HasNoAt}
use Rattle.markdown_addresses.proofs.NoneLemmas.{mail_none}
use Rattle.markdown_pieces.specs.declared.pieces.Kind.TheVariants.{Plain}
use Rattle.markdown_pieces.specs.Scan.{HasNoWeb}
use Rattle.markdown_pieces.specs.Pieces.{piece, is_plain, is_word, ends_line, stays, bare_if, plain_from, plain_by, plain_piece}

-- ---- behind a letter

no_www : (b : ℕ) → is_word b ≡ true → may_precede_www (Some b) ≡ false
no_www b h = grind (arith, nat_tests)

no_web : (b : ℕ) (rest : List ℕ) → is_word b ≡ true → may_precede_web (Some b) rest ≡ false
no_web b rest h = both_no (is_in_front (codes "www.") rest) _ _ (no_www b h) (ap not h)
  where
    both_no : (t u v : Bool) → u ≡ false → v ≡ false → cond t u v ≡ false
    both_no true u v e f = e
    both_no false u v e f = f

no_mail : (b : ℕ) → is_word b ≡ true → may_precede_mail (Some b) ≡ false
no_mail b h = grind (arith, nat_tests)

either_none : (free : Bool) (o : Option Bare) → o ≡ None → is_some (cond free o None) ≡ false
either_none true o e = ap is_some e
either_none false o e = refl

-- behind a letter no address begins
pub word_none : (free : Bool) (b : ℕ) (rest : List ℕ) → is_word b ≡ true → is_some (bare_if free (Some b) rest) ≡ false
word_none free b rest h =
    either_none free (bare_after (Some b) rest)
    (ap (λ t. or_bare (cond t (web_of rest) None) (cond (may_precede_mail (Some b)) (mail_of rest) None)) (no_web b rest h) ∙ ap (λ t. or_bare None (cond t (mail_of rest) None)) (no_mail b h))

-- ---- blanks

-- a blank stands for itself where no end of a line follows the blanks
pub blank_stays : (b : ℕ) (rest : List ℕ) → is_blank_byte b ≡ true → stays b rest ≡ not (ends_line rest)
blank_stays b rest h = ap (λ t. t || (is_blank_byte b && not (ends_line rest))) (blank_not_plain b h) ∙ ap (λ t. t && not (ends_line rest)) h
  where
    blank_not_plain : (b : ℕ) → is_blank_byte b ≡ true → is_plain b ≡ false
    blank_not_plain b h = grind (arith, nat_tests)

-- any other byte stands for itself where it is plain
pub other_stays : (b : ℕ) (rest : List ℕ) → is_blank_byte b ≡ false → stays b rest ≡ is_plain b
other_stays b rest h = ap (λ t. is_plain b || (t && not (ends_line rest))) h ∙ or_no (is_plain b)
  where
    or_no : (t : Bool) → (t || false) ≡ t
    or_no true = refl
    or_no false = refl

-- with one more blank in front a line ends as without it
pub ends_next : (b : ℕ) (bs : List ℕ) → is_blank_byte b ≡ true → ends_line (b ∷ bs) ≡ ends_line bs
ends_next b bs h = ap (λ n. eqb (first (drop n (b ∷ bs))) 10) (one_more h ∙ swap (prefix_len is_blank_byte bs))
  where
    one_more : is_blank_byte b ≡ true → prefix_len is_blank_byte (b ∷ bs) ≡ 1 + prefix_len is_blank_byte bs
    one_more h = ap (λ t. cond t (1 + prefix_len is_blank_byte bs) 0) h

    swap : (n : ℕ) → 1 + n ≡ suc n
    swap n = omega arith

-- no end of a line follows the other blanks either
pub still_inside : (b : ℕ) (bs rest next : List ℕ) → rest ≡ b ∷ bs → next ≡ bs → stays b rest ≡ true → is_blank_byte b ≡ true → ends_line next ≡ false
still_inside b bs rest next e f h blank =
    ap ends_line f ∙ sym (ends_next b bs blank) ∙ ap ends_line (sym e) ∙ off (ends_line rest) (sym (blank_stays b rest blank) ∙ h)
  where
    off : (t : Bool) → not t ≡ true → t ≡ false
    off true h = sym h
    off false h = refl

-- where no byte is an at sign, none is behind the first
pub no_at_next : (b : ℕ) (bs : List ℕ) → HasNoAt (b ∷ bs) → HasNoAt bs
no_at_next b bs h k = h (suc k)

-- nor is one behind any of them
pub no_at_drop : (n : ℕ) (bs : List ℕ) → HasNoAt bs → HasNoAt (drop n bs)
no_at_drop n bs h k = ap (λ b. eqb b 64) (get_or-drop n bs k 0) ∙ h (n + k)

-- what a search says that finds none
pub no_at : (bs : List ℕ) → Nowhere (Passes (is_byte 64) bs) 0 (length bs) → HasNoAt bs
no_at bs none k =
    ⊎_elim (λ (few : k < length bs). off (eqb (get_or bs k 0) 64) (none k (omega arith) few)) (λ (over : length bs ≤ k). ap (λ b. eqb b 64) (get_or_beyond bs k 0 over)) (cases_lt k (length bs))
  where
    off : (t : Bool) → (t ≡ true → ⊥) → t ≡ false
    off true h = absurd (h refl)
    off false h = refl

    get_or_beyond : (xs : List ℕ) (i d : ℕ) → length xs ≤ i → get_or xs i d ≡ d
    get_or_beyond [] i d h = refl
    get_or_beyond (x ∷ xs) zero d h = absurd (omega (arith, h))
    get_or_beyond (x ∷ xs) (suc i) d h = get_or_beyond xs i d (omega (arith, h))

-- ---- bytes that stand for themselves

-- a byte that stands for itself counts, and then those behind it
pub plain_step : (free : Bool) (last b : ℕ) (rest next : List ℕ) → rest ≡ b ∷ next → stays b rest ≡ true → is_some (bare_if free (Some last) rest) ≡ false → plain_from free (Some last) rest ≡ suc (plain_from free (Some b) next)
unfolding plain_from
plain_step free last b rest next e s h =
    let s : stays b (b ∷ next) ≡ true = ap (stays b) (sym e) ∙ s in
    let h : is_some (bare_if free (Some last) (b ∷ next)) ≡ false = ap (λ (l : List ℕ). is_some (bare_if free (Some last) l)) (sym e) ∙ h in
    ap (plain_from free (Some last)) e
    ∙ ap (λ t. cond (t && not (is_some (bare_if free (Some last) (b ∷ next)))) (suc (plain_from free (Some b) next)) 0) s
    ∙ ap (λ t. cond (not t) (suc (plain_from free (Some b) next)) 0) h

-- bytes that stand for themselves go up to one that doesn't
pub plain_stays_not : (free : Bool) (last b : ℕ) (rest next : List ℕ) → rest ≡ b ∷ next → stays b rest ≡ false → plain_from free (Some last) rest ≡ 0
unfolding plain_from
plain_stays_not free last b rest next e s =
    ap (plain_from free (Some last)) e ∙ ap (λ t. cond (t && not (is_some (bare_if free (Some last) (b ∷ next)))) (suc (plain_from free (Some b) next)) 0) (ap (stays b) (sym e) ∙ s)

-- they go up to a bare address
pub plain_is_bare : (free : Bool) (last b : ℕ) (rest next : List ℕ) → rest ≡ b ∷ next → is_some (bare_if free (Some last) rest) ≡ true → plain_from free (Some last) rest ≡ 0
unfolding plain_from
plain_is_bare free last b rest next e h =
    ap (plain_from free (Some last)) e
    ∙ ap (λ t. cond (stays b (b ∷ next) && not t) (suc (plain_from free (Some b) next)) 0) (ap (λ (l : List ℕ). is_some (bare_if free (Some last) l)) (sym e) ∙ h)
    ∙ none (stays b (b ∷ next))
  where
    none : (t : Bool) → cond (t && false) (suc (plain_from free (Some b) next)) 0 ≡ 0
    none true = refl
    none false = refl

-- without bytes none stands for itself
pub plain_no_more : (free : Bool) (before : Option ℕ) (rest : List ℕ) → length rest ≡ 0 → plain_from free before rest ≡ 0
unfolding plain_from
plain_no_more free before [] e = refl
plain_no_more free before (b ∷ bs) e = absurd (omega (arith, e))

word_plain : (b : ℕ) → is_word b ≡ true → is_plain b ≡ true
word_plain b h = grind (arith, nat_tests)

-- a letter behind another
pub plain_word : (free : Bool) (last b : ℕ) (rest next : List ℕ) → rest ≡ b ∷ next → (is_word last && is_word b) ≡ true → plain_from free (Some last) rest ≡ suc (plain_from free (Some b) next)
plain_word free last b rest next e h =
    let both = and_parts (is_word last) (is_word b) h in
    plain_step free last b rest next e (ap (λ t. t || (is_blank_byte b && not (ends_line rest))) (word_plain b both.1)) (word_none free last rest both.0)

-- ---- where it is known that there is no address

either : (t u : Bool) (o p : Option Bare) → o ≡ None → p ≡ None → or_bare (cond t o None) (cond u p None) ≡ None
either t u o p e f = ap₂ (λ x y. or_bare x y) (one t o e) (one u p f)
  where
    one : (t : Bool) (o : Option Bare) → o ≡ None → cond t o None ≡ None
    one true o e = e
    one false o e = refl

none_after : (free : Bool) (before : Option ℕ) (rest : List ℕ) → web_of rest ≡ None → HasNoAt rest → bare_if free before rest ≡ None
none_after false before rest web mail = refl
none_after true before rest web mail = either (may_precede_web before rest) (may_precede_mail before) (web_of rest) (mail_of rest) web (mail_none rest mail)

no_web_next : (b : ℕ) (bs : List ℕ) → HasNoWeb (b ∷ bs) → HasNoWeb bs
no_web_next b bs h k = h (suc k)

-- bytes stand for themselves as far as where no address is looked for
plain_same : (free : Bool) (before other : Option ℕ) (rest : List ℕ) → HasNoWeb rest → HasNoAt rest → plain_from free before rest ≡ plain_from false other rest
unfolding plain_from
plain_same free before other [] web mail = refl
plain_same free before other (b ∷ bs) web mail =
    ap (λ o. cond (stays b (b ∷ bs) && not (is_some o)) (suc (plain_from free (Some b) bs)) 0) (none_after free before (b ∷ bs) (web 0) mail)
    ∙ ap (λ n. cond (stays b (b ∷ bs) && true) (suc n) 0) (plain_same free (Some b) (Some b) bs (no_web_next b bs web) (no_at_next b bs mail))

-- where there is no address, the piece is the same whether one is looked for or not
pub plain_piece_same : (free : Bool) (before : Option ℕ) (b : ℕ) (rest : List ℕ) → HasNoWeb rest → HasNoAt rest → plain_piece false before b rest ≡ plain_piece free before b rest
unfolding plain_piece
plain_piece_same free before b rest web mail =
    ap (λ n. piece Plain n) (sym (plain_same free (Some b) (Some b) (drop 1 rest) (λ k. ap web_of (drop_drop k rest) ∙ web (suc k)) (no_at_drop 1 rest mail)))
    ∙ ap (λ o. plain_by o free b rest) (sym (none_after free before rest (web 0) mail))
  where
    drop_drop : (k : ℕ) (rest : List ℕ) → drop k (drop 1 rest) ≡ drop (suc k) rest
    drop_drop zero [] = refl
    drop_drop (suc k) [] = refl
    drop_drop k (b ∷ bs) = refl

-- where no address is looked for, what stands before doesn't matter
pub plain_before : (free : Bool) (before other : Option ℕ) (rest : List ℕ) → free ≡ false → plain_from false before rest ≡ plain_from free other rest
unfolding plain_from
plain_before free before other [] e = refl
plain_before true before other (b ∷ bs) e = absurd (never e)
  where
    never : true ≡ false → ⊥
    never e = cc
plain_before false before other (b ∷ bs) e = refl
