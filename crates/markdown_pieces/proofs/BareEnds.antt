-- Bare addresses begin and end where a text may be cut.
use Rattle.std.proofs.Common.{◌≡◌, ℕ, zero, suc, ◌+◌, ◌-◌, ◌<◌, ◌≤◌, inl, inr, ⊎_elim, Bool, true, false, cond, eqb, not, ◌||◌, ◌&&◌, List, [], ◌∷◌, length, take, drop, get_or, refl, sym, ap, subst, ◌∙◌, arith, Option, Some, None, codes, is_some}
use Rattle.std.specs.Char.{is_ascii_alphabetic, is_ascii_alphanumeric, to_ascii_lowercase}
use Rattle.std.specs.List.{prefix_len, list_any}
use Rattle.std.proofs.lemmas.Bool.{cases_lt, eqb-true, and_parts}
use Rattle.std.proofs.lemmas.Bool.Decides.{nat_tests}
use Rattle.std.proofs.lemmas.List.{get_or-drop}
use Rattle.std.proofs.lemmas.List.Sums.{prefix_len_passes, prefix_len_stops}
use Rattle.markdown_marks.specs.Bytes.{first}
use Rattle.markdown_html.specs.Names.{same_letters}
use Rattle.markdown_addresses.specs.declared.addresses.Scheme.{Scheme}
use Rattle.markdown_addresses.specs.declared.addresses.Scheme.TheVariants.{Itself, Mail, Web}
use Rattle.markdown_addresses.specs.declared.bare.Bare.{Bare}
use Rattle.markdown_addresses.specs.declared.bare.Trim.{Trim}
use Rattle.markdown_addresses.specs.declared.bare.Trim.TheVariants.{Stays, Goes}
use Rattle.markdown_addresses.specs.Bare.{is_domain_byte, domain_len, is_period, web_domain, is_path_byte, count_of, is_trailing, ends_name, trim_next, trimmed, address_end, bare, web_by, web_from, is_in_front, web_of, is_mail_byte, mail_domain, mail_by, mail_of, may_precede_web, may_precede_mail, or_bare, bare_after}
use Rattle.markdown_pieces.proofs.EndLemmas.{EndsWell}
use Rattle.markdown_pieces.proofs.TailLemmas.{by_cond}

-- an address begins with a byte of ASCII, and ends well
pub record IsPlacedBare (bytes : List ℕ) (found : Bare) : Type 0 where
  pub first : get_or bytes 0 0 < 128
  pub ends : EndsWell bytes (found.len - 1)

-- an address that is found is placed so
abbrev pub GivesBare : List ℕ → Option Bare → Type 0
GivesBare bytes o = (found : Bare) → o ≡ Some found → IsPlacedBare bytes found

no_bare : (bytes : List ℕ) → GivesBare bytes None
no_bare bytes found e = absurd (no found e)
  where
    no : (found : Bare) → None ≡ Some found → ⊥
    no found e = cc

one_bare : (bytes : List ℕ) (b : Bare) → IsPlacedBare bytes b → GivesBare bytes (Some b)
one_bare bytes b p found e = let same : b ≡ found = cc in subst (λ (x : Bare). IsPlacedBare bytes x) same p

-- ---- the end of an address

trailing_small : (b : ℕ) → is_trailing b ≡ true → b < 128
trailing_small b h = grind (arith, nat_tests)

letter_small : (b : ℕ) → is_ascii_alphanumeric b ≡ true → b < 128
letter_small b h = grind (arith, nat_tests)

eq_small : (b n : ℕ) → eqb b n ≡ true → n < 128 → b < 128
eq_small b n h l = let same : b ≡ n = eqb-true b n h in omega (arith, same)

-- what is behind the bytes that are left is of ASCII
pub trim_stop : (spare : ℕ) (entity : Bool) (n : ℕ) (bytes : List ℕ) → get_or bytes n 0 < 128 → get_or bytes (trimmed spare entity n bytes) 0 < 128
unfolding trimmed
trim_stop spare entity zero bytes h = h
trim_stop spare entity (suc n) bytes h =
    let b : ℕ = get_or bytes n 0 in
    let P : Trim → Type 0 = λ t. get_or bytes (trim_next t (suc n) (λ s e. trimmed s e n bytes)) 0 < 128 in
    let on : (s : ℕ) (e : Bool) → b < 128 → P (Goes s e) = λ s e small. trim_stop s e n bytes small in
    by_cond P entity (cond (eqb b 38) (Goes spare false) (cond (is_ascii_alphanumeric b) (Goes spare true) Stays)) _
    (λ k. by_cond P (eqb b 38) (Goes spare false) _ (λ x. on spare false (eq_small b 38 x (omega arith)))
    (λ x. by_cond P (is_ascii_alphanumeric b) (Goes spare true) Stays (λ y. on spare true (letter_small b y)) (λ y. h)))
    (λ k. by_cond P (is_trailing b) (Goes spare false) _ (λ x. on spare false (trailing_small b x))
    (λ x. by_cond P (eqb b 41) (cond (eqb spare 0) Stays (Goes (spare - 1) false)) _
    (λ y. by_cond P (eqb spare 0) Stays (Goes (spare - 1) false) (λ z. h) (λ z. on (spare - 1) false (eq_small b 41 y (omega arith))))
    (λ y. by_cond P (eqb b 59) (Goes spare (ends_name false n bytes)) Stays (λ z. on spare (ends_name false n bytes) (eq_small b 59 z (omega arith))) (λ z. h))))

no_path : (b : ℕ) → is_path_byte b ≡ false → b < 128
no_path b h = grind (arith, nat_tests)

beyond : (l : List ℕ) (n : ℕ) → length l ≤ n → get_or l n 0 < 128
beyond [] n h = omega arith
beyond (b ∷ bs) zero h = absurd (omega arith)
beyond (b ∷ bs) (suc n) h = beyond bs n (omega arith)

path_stop : (bytes : List ℕ) (n : ℕ) → n ≡ prefix_len is_path_byte bytes → get_or bytes n 0 < 128
path_stop bytes n e =
    ⊎_elim (λ (few : n < length bytes). no_path (get_or bytes n 0) (ap (λ i. is_path_byte (get_or bytes i 0)) e ∙ prefix_len_stops is_path_byte bytes 0 (omega (arith, e))))
    (λ (over : length bytes ≤ n). beyond bytes n over) (cases_lt n (length bytes))

end_small : (bytes : List ℕ) → get_or bytes (address_end bytes) 0 < 128
end_small bytes =
    let rest : List ℕ = drop 1 bytes in
    let all : ℕ = prefix_len is_path_byte rest in
    let spare : ℕ = count_of 41 (take all rest) - count_of 40 (take all rest) in
    subst (λ (b : ℕ). b < 128) (get_or-drop 1 bytes (trimmed spare false all rest) 0) (trim_stop spare false all rest (path_stop rest all refl))

-- ---- addresses of the web

web_ends : (start domain : ℕ) (scheme : Scheme) (bytes : List ℕ) → get_or bytes 0 0 < 128 → IsPlacedBare bytes (bare (start + address_end (drop start bytes)) scheme)
web_ends start domain scheme bytes h =
    let there : ((start + address_end (drop start bytes)) - 1) + 1 ≡ start + address_end (drop start bytes) = omega arith in
    let byte : get_or bytes (((start + address_end (drop start bytes)) - 1) + 1) 0 < 128 =
    subst (λ (i : ℕ). get_or bytes i 0 < 128) (sym there) (subst (λ (b : ℕ). b < 128) (get_or-drop start bytes (address_end (drop start bytes)) 0) (end_small (drop start bytes))) in
    record { first = h; ends = inr byte }

web_by_ends : (start : ℕ) (scheme : Scheme) (o : Option ℕ) (bytes : List ℕ) → get_or bytes 0 0 < 128 → GivesBare bytes (web_by start scheme o (drop start bytes))
web_by_ends start scheme None bytes h = no_bare bytes
web_by_ends start scheme (Some domain) bytes h = one_bare bytes (bare (start + address_end (drop start bytes)) scheme) (web_ends start domain scheme bytes h)

lower_small : (n b : ℕ) → eqb n (to_ascii_lowercase b) ≡ true → n < 128 → b < 128
lower_small n b h l = grind (arith, nat_tests)

front_small : (n : ℕ) (ns bytes : List ℕ) → n < 128 → is_in_front (n ∷ ns) bytes ≡ true → get_or bytes 0 0 < 128
unfolding same_letters
front_small n ns [] l h = absurd (no h)
  where
    no : false ≡ true → ⊥
    no e = cc
front_small n ns (b ∷ bs) l h = let both = and_parts (eqb n (to_ascii_lowercase b)) (same_letters ns (take (length ns) bs)) h in lower_small n b both.0 l

web_from_ends : (name : List ℕ) (start : ℕ) (dotted : Bool) (scheme : Scheme) (bytes : List ℕ) → (is_in_front name bytes ≡ true → get_or bytes 0 0 < 128) → is_in_front name bytes ≡ true → GivesBare bytes (web_from start dotted scheme bytes)
web_from_ends name start dotted scheme bytes f h = web_by_ends start scheme (web_domain dotted (drop start bytes)) bytes (f h)

web_of_ends : (bytes : List ℕ) → GivesBare bytes (web_of bytes)
web_of_ends bytes =
    let P : Option Bare → Type 0 = GivesBare bytes in
    by_cond P (is_in_front (codes "www.") bytes) (web_from 0 true Web bytes) _ (web_from_ends (codes "www.") 0 true Web bytes (front_small 119 (codes "ww.") bytes (omega arith)))
    (λ h1. by_cond P (is_in_front (codes "https://") bytes) (web_from 8 false Itself bytes) _ (web_from_ends (codes "https://") 8 false Itself bytes (front_small 104 (codes "ttps://") bytes (omega arith)))
    (λ h2. by_cond P (is_in_front (codes "http://") bytes) (web_from 7 false Itself bytes) _ (web_from_ends (codes "http://") 7 false Itself bytes (front_small 104 (codes "ttp://") bytes (omega arith)))
    (λ h3. by_cond P (is_in_front (codes "ftp://") bytes) (web_from 6 false Itself bytes) None (web_from_ends (codes "ftp://") 6 false Itself bytes (front_small 102 (codes "tp://") bytes (omega arith)))
    (λ h4. no_bare bytes))))

-- ---- addresses of mail

mail_small : (b : ℕ) → is_mail_byte b ≡ true → b < 128
mail_small b h = grind (arith, nat_tests)

alphabetic_small : (b : ℕ) → is_ascii_alphabetic b ≡ true → b < 128
alphabetic_small b h = grind (arith, nat_tests)

mail_end : (local domain : ℕ) (bytes : List ℕ) → get_or bytes local 0 ≡ 64 → is_ascii_alphabetic (first (drop (domain - 1) (drop (local + 1) bytes))) ≡ true → get_or bytes ((local + 1 + domain) - 1) 0 < 128
mail_end local zero bytes at letter = let there : (local + 1 + 0) - 1 ≡ local = omega arith in let byte : get_or bytes ((local + 1 + 0) - 1) 0 ≡ 64 = ap (λ i. get_or bytes i 0) there ∙ at in omega (arith, byte)
mail_end local (suc k) bytes at letter =
    let there : local + 1 + (suc k - 1 + 0) ≡ (local + 1 + suc k) - 1 = omega arith in
    let rest : List ℕ = drop (local + 1) bytes in
    let byte : first (drop (suc k - 1) rest) ≡ get_or bytes ((local + 1 + suc k) - 1) 0 = get_or-drop (suc k - 1) rest 0 0 ∙ get_or-drop (local + 1) bytes (suc k - 1 + 0) 0 ∙ ap (λ i. get_or bytes i 0) there in
    omega (arith, byte, alphabetic_small (first (drop (suc k - 1) rest)) letter)

mail_domain_ends : (local : ℕ) (bytes : List ℕ) → get_or bytes 0 0 < 128 → get_or bytes local 0 ≡ 64 → GivesBare bytes (mail_by local (mail_domain (drop (local + 1) bytes)))
mail_domain_ends local bytes h at =
    let rest : List ℕ = drop (local + 1) bytes in
    let len : ℕ = domain_len rest in
    let some : Bool = is_domain_byte (first rest) && list_any is_period (take len rest) in
    by_cond (λ (o : Option ℕ). GivesBare bytes (mail_by local o)) (some && is_ascii_alphabetic (first (drop (len - 1) rest))) (Some len) None
    (λ k. let both = and_parts some (is_ascii_alphabetic (first (drop (len - 1) rest))) k in
    one_bare bytes (bare (local + 1 + len) Mail) (record { first = h; ends = inl (mail_end local len bytes at both.1) }))
    (λ k. no_bare bytes)

local_small : (n : ℕ) (bytes : List ℕ) → n ≡ prefix_len is_mail_byte bytes → eqb n 0 ≡ false → get_or bytes 0 0 < 128
local_small zero bytes e h = absurd (no h)
  where
    no : true ≡ false → ⊥
    no e = cc
local_small (suc n) bytes e h = mail_small (get_or bytes 0 0) (prefix_len_passes is_mail_byte bytes 0 0 (omega (arith, e)))

-- two tests that hold neither
neither : (x y : Bool) → (x || not y) ≡ false → (x ≡ false) × (y ≡ true)
neither true y h = absurd (no h)
  where
    no : true ≡ false → ⊥
    no e = cc
neither false true h = (refl, refl)
neither false false h = absurd (no h)
  where
    no : true ≡ false → ⊥
    no e = cc

mail_of_ends : (bytes : List ℕ) → GivesBare bytes (mail_of bytes)
mail_of_ends bytes =
    let local : ℕ = prefix_len is_mail_byte bytes in
    by_cond (GivesBare bytes) (eqb local 0 || not (eqb (first (drop local bytes)) 64)) None _ (λ h. no_bare bytes)
    (λ h. let both = neither (eqb local 0) (eqb (first (drop local bytes)) 64) h in
    let zero_more : local + 0 ≡ local = omega arith in
    let at : get_or bytes local 0 ≡ 64 = ap (λ i. get_or bytes i 0) (sym zero_more) ∙ sym (get_or-drop local bytes 0 0) ∙ eqb-true (first (drop local bytes)) 64 both.1 in
    mail_domain_ends local bytes (local_small local bytes refl both.0) at)

-- ---- both

or_ends : (bytes : List ℕ) (o q : Option Bare) → GivesBare bytes o → GivesBare bytes q → GivesBare bytes (or_bare o q)
or_ends bytes None q f g = g
or_ends bytes (Some b) q f g = f

-- a bare address is placed so
pub bare_ends : (before : Option ℕ) (bytes : List ℕ) → GivesBare bytes (bare_after before bytes)
bare_ends before bytes =
    or_ends bytes (cond (may_precede_web before bytes) (web_of bytes) None) (cond (may_precede_mail before) (mail_of bytes) None)
    (by_cond (GivesBare bytes) (may_precede_web before bytes) (web_of bytes) None (λ h. web_of_ends bytes) (λ h. no_bare bytes))
    (by_cond (GivesBare bytes) (may_precede_mail before) (mail_of bytes) None (λ h. mail_of_ends bytes) (λ h. no_bare bytes))

-- an address is found at a byte of ASCII
some_first : (bytes : List ℕ) (o : Option Bare) → GivesBare bytes o → is_some o ≡ true → get_or bytes 0 0 < 128
some_first bytes None g h = absurd (no h)
  where
    no : false ≡ true → ⊥
    no e = cc
some_first bytes (Some b) g h = (g b refl).first

-- a bare address is found at a byte of ASCII only
pub bare_first : (before : Option ℕ) (bytes : List ℕ) → is_some (bare_after before bytes) ≡ true → get_or bytes 0 0 < 128
bare_first before bytes h = some_first bytes (bare_after before bytes) (bare_ends before bytes) h
