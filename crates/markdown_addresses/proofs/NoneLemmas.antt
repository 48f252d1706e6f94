-- Where no bare address begins.
use Rattle.std.proofs.Common.{◌≡◌, ℕ, suc, ◌+◌, Bool, true, false, cond, eqb, not, ◌||◌, ◌&&◌, List, [], ◌∷◌, length, take, drop, get_or, refl, sym, ap, ◌∙◌, arith, Option, Some, None, codes}
use Rattle.std.specs.List.{prefix_len}
use Rattle.std.specs.Char.{to_ascii_lowercase}
use Rattle.std.proofs.lemmas.Bool.Decides.{nat_tests}
use Rattle.std.proofs.lemmas.List.{get_or-drop}
use Rattle.markdown_html.specs.Names.{same_letters}
use Rattle.markdown_marks.specs.Bytes.{first}
use Rattle.markdown_addresses.specs.declared.bare.Bare.{Bare}
use Rattle.markdown_addresses.specs.Bare.{is_in_front, web_of, web_from, is_mail_byte, mail_of, mail_by, mail_domain, may_begin_web, HasNoAt, or_bare}

front_no : (n : ℕ) (ns bytes : List ℕ) → eqb n (to_ascii_lowercase (first bytes)) ≡ false → is_in_front (n ∷ ns) bytes ≡ false
unfolding same_letters
front_no n ns [] h = refl
front_no n ns (b ∷ bs) h = ap (λ t. t && same_letters ns (take (length ns) bs)) h

four : (t u v w : Bool) (a b c d : Option Bare) → t ≡ false → u ≡ false → v ≡ false → w ≡ false → cond t a (cond u b (cond v c (cond w d None))) ≡ None
four t u v w a b c d e f g h = ap (λ x. cond x a (cond u b (cond v c (cond w d None)))) e ∙ ap (λ x. cond x b (cond v c (cond w d None))) f ∙ ap (λ x. cond x c (cond w d None)) g ∙ ap (λ x. cond x d None) h

no_w : (b : ℕ) → may_begin_web b ≡ false → eqb 119 (to_ascii_lowercase b) ≡ false
no_w b h = grind (arith, nat_tests)

no_h : (b : ℕ) → may_begin_web b ≡ false → eqb 104 (to_ascii_lowercase b) ≡ false
no_h b h = grind (arith, nat_tests)

no_f : (b : ℕ) → may_begin_web b ≡ false → eqb 102 (to_ascii_lowercase b) ≡ false
no_f b h = grind (arith, nat_tests)

-- where the first byte can't begin an address of the web, none begins
pub web_none : (bytes : List ℕ) → may_begin_web (first bytes) ≡ false → web_of bytes ≡ None
web_none bytes h =
    four _ _ _ _ _ _ _ _ (front_no 119 (codes "ww.") bytes (no_w (first bytes) h)) (front_no 104 (codes "ttps://") bytes (no_h (first bytes) h))
    (front_no 104 (codes "ttp://") bytes (no_h (first bytes) h)) (front_no 102 (codes "tp://") bytes (no_f (first bytes) h))

either_none : (t : Bool) (o : Option Bare) → cond (t || not false) None o ≡ None
either_none true o = refl
either_none false o = refl

-- without an at sign no address of mail begins
pub mail_none : (bytes : List ℕ) → HasNoAt bytes → mail_of bytes ≡ None
mail_none bytes h =
    let local : ℕ = prefix_len is_mail_byte bytes in
    let none : eqb (first (drop local bytes)) 64 ≡ false = ap (λ b. eqb b 64) (get_or-drop local bytes 0 0) ∙ h (local + 0) in
    ap (λ t. cond (eqb local 0 || not t) None (mail_by local (mail_domain (drop (local + 1) bytes)))) none ∙ either_none (eqb local 0) _

not_mail : (bytes : List ℕ) (n : ℕ) → n ≡ 0 → (o : Option Bare) (t : Bool) → cond (eqb n 0 || t) None o ≡ None
not_mail bytes n e o t = ap (λ k. cond (eqb k 0 || t) None o) e

no_local : (b : ℕ) (bs : List ℕ) → is_mail_byte b ≡ false → prefix_len is_mail_byte (b ∷ bs) ≡ 0
no_local b bs h = ap (λ t. cond t (1 + prefix_len is_mail_byte bs) 0) h

-- nor does one begin with a byte that can't be of it
pub mail_first : (b : ℕ) (bs : List ℕ) → is_mail_byte b ≡ false → mail_of (b ∷ bs) ≡ None
mail_first b bs h = not_mail (b ∷ bs) (prefix_len is_mail_byte (b ∷ bs)) (no_local b bs h) _ _

-- an address that isn't there isn't found in either case
pub cond_none : (t : Bool) (o : Option Bare) → o ≡ None → cond t o None ≡ None
cond_none true o e = e
cond_none false o e = refl
