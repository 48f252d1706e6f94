-- Each piece ends where a text may be cut.
use Rattle.std.proofs.Common.{◌≡◌, ℕ, zero, suc, ◌+◌, ◌-◌, ◌<◌, ◌≤◌, inl, inr, ⊎_elim, Bool, true, false, cond, eqb, leb, ltb, not, ◌||◌, ◌&&◌, List, [], ◌∷◌, length, take, drop, get_or, refl, sym, ap, subst, ◌∙◌, arith, Option, Some, None, option_map, is_some}
use Rattle.std.specs.Char.{is_ascii_digit, is_ascii_hexdigit, is_ascii_alphanumeric, is_ascii_punctuation}
use Rattle.std.specs.List.{prefix_len}
use Rattle.std.specs.Str.Parse.{digits_value}
use Rattle.std.proofs.lemmas.Bool.{cases_lt, eqb-true, and_parts}
use Rattle.std.proofs.lemmas.Bool.Decides.{nat_tests}
use Rattle.std.proofs.lemmas.List.{length-drop, get_or-drop}
use Rattle.markdown_emphasis.specs.declared.runs.Sign.{Sign}
use Rattle.markdown_emphasis.specs.declared.runs.Sign.TheVariants.{Star, Underscore, Tilde}
use Rattle.markdown_marks.specs.Bytes.{first, is_blank_byte, count_in_front}
use Rattle.markdown_spans.specs.Ticks.{run_at}
use Rattle.markdown_spans.specs.Code.{code_with}
use Rattle.markdown_spans.specs.Entities.{with_char, char_of, value_after, hexadecimal, decimal, numeric, with_named, named, entity_of}
use Rattle.markdown_entities.specs.declared.lookup.Named.{Named}
use Rattle.markdown_entities.specs.Lookup.{characters_named}
use Rattle.markdown_addresses.specs.Addresses.{is_scheme_byte, is_address_byte, is_local_byte, has_scheme, ended_at, uri_len, may_end, domain_next, after_domain, email_len, or_len, address_len}
use Rattle.markdown_addresses.specs.declared.addresses.Domain.{Domain}
use Rattle.markdown_addresses.specs.declared.addresses.Domain.TheVariants.{On, Ends as EndsDomain, No}
use Rattle.markdown_addresses.specs.declared.bare.Bare.{Bare}
use Rattle.markdown_spans.specs.Html.{html_end}
use Rattle.markdown_spans.specs.declared.code.Code.{Code}
use Rattle.markdown_spans.specs.declared.entities.Escape.{Escape}
use Rattle.markdown_spans.specs.declared.entities.Escape.TheVariants.{Sign as SignEscape, Break, Itself}
use Rattle.markdown_spans.specs.declared.entities.Entity.{Entity}
use Rattle.markdown_pieces.specs.declared.pieces.Piece.{Piece}
use Rattle.markdown_pieces.specs.Pieces.{is_plain, run_piece, code_by, code_piece, escape_by, escape_piece, entity_by, entity_piece, html_by, html_piece, angle_by, angle_piece, is_hard, ends_line, break_piece, bare_if, stays, plain_from, plain_by, plain_piece, no_mark_piece, byte_before, piece_by}
use Rattle.markdown_pieces.proofs.EndLemmas.{EndsWell, count_is}
use Rattle.markdown_pieces.proofs.HtmlEnds.{html_ends}
use Rattle.markdown_pieces.proofs.BareEnds.{bare_ends, bare_first}
use Rattle.markdown_pieces.proofs.TailLemmas.{by_cond, EndsBy, ends_cons, ends_here, Gives, gives_none, gives_some, GivesLen, len_none, len_some}

-- the piece ends after a byte of ASCII, or before one
abbrev pub Ends : List ℕ → Piece → Type 0
Ends rest p = EndsWell rest p.more

byte_small : (rest : List ℕ) (k b : ℕ) → get_or rest k 0 ≡ b → b < 128 → get_or rest k 0 < 128
byte_small rest k b e h = omega (arith, e)

-- a piece whose last byte is of ASCII ends so
pub ends_at : (rest : List ℕ) (more b : ℕ) → get_or rest more 0 ≡ b → b < 128 → EndsWell rest more
ends_at rest more b e h = inl (byte_small rest more b e h)

-- ---- runs

count_ends_by : (b : ℕ) (rest : List ℕ) (n : ℕ) → n ≡ count_in_front b rest → get_or rest 0 0 < 128 → b < 128 → get_or rest (n - 1) 0 < 128
count_ends_by b rest zero e f h = f
count_ends_by b rest (suc n) e f h = let same : suc n - 1 ≡ n = omega arith in byte_small rest (suc n - 1) b (ap (λ i. get_or rest i 0) same ∙ count_is b rest n (omega (arith, e))) h

run_ends : (sign : Sign) (text : List ℕ) (at : ℕ) (rest : List ℕ) → get_or rest 0 0 < 128 → Ends rest (run_piece sign text at rest)
run_ends sign text at rest h = inl (count_ends_by (first rest) rest (count_in_front (first rest) rest) refl h h)

-- ---- code spans

-- no run begins earlier than it was seen
run_late : (n seen at k : ℕ) (bs : List ℕ) → run_at n seen at bs ≡ Some k → at ≤ k
unfolding run_at
run_late n seen at k [] e = by_cond (λ (o : Option ℕ). o ≡ Some k → at ≤ k) (eqb seen n) (Some at) None (λ h e. let same : at ≡ k = cc in omega (arith, same)) (λ h e. absurd (no e)) e
  where
    no : None ≡ Some k → ⊥
    no e = cc
run_late n seen at k (b ∷ bs) e =
    by_cond (λ (o : Option ℕ). o ≡ Some k → at ≤ k) (eqb b 96) (run_at n (seen + 1) at bs) _ (λ h e. run_late n (seen + 1) at k bs e)
    (λ h. by_cond (λ (o : Option ℕ). o ≡ Some k → at ≤ k) (eqb seen n) (Some at) (run_at n 0 (at + seen + 1) bs) (λ g e. let same : at ≡ k = cc in omega (arith, same))
    (λ g e. let late : at + seen + 1 ≤ k = run_late n 0 (at + seen + 1) k bs e in omega arith)) e

-- its bytes are backquotes
run_bytes : (n seen at k j : ℕ) (bs : List ℕ) → run_at n seen at bs ≡ Some k → k ≤ j → j < k + n → at + seen ≤ j → get_or bs (j - (at + seen)) 0 ≡ 96
unfolding run_at
run_bytes n seen at k j [] e low high here =
    by_cond (λ (o : Option ℕ). o ≡ Some k → get_or {A = ℕ} [] (j - (at + seen)) 0 ≡ 96) (eqb seen n) (Some at) None
    (λ h e. let same : at ≡ k = cc in let full : seen ≡ n = eqb-true seen n h in absurd (omega arith)) (λ h e. absurd (no e)) e
  where
    no : None ≡ Some k → ⊥
    no e = cc
run_bytes n seen at k j (b ∷ bs) e low high here =
    by_cond (λ (o : Option ℕ). o ≡ Some k → get_or (b ∷ bs) (j - (at + seen)) 0 ≡ 96) (eqb b 96) (run_at n (seen + 1) at bs) _
    (λ h e. ⊎_elim (λ (first : j < at + (seen + 1)). let now : j - (at + seen) ≡ 0 = omega arith in ap (λ i. get_or (b ∷ bs) i 0) now ∙ eqb-true b 96 h)
    (λ (later : at + (seen + 1) ≤ j). let next : j - (at + seen) ≡ suc (j - (at + (seen + 1))) = omega arith in
    ap (λ i. get_or (b ∷ bs) i 0) next ∙ run_bytes n (seen + 1) at k j bs e low high later) (cases_lt j (at + (seen + 1))))
    (λ h. by_cond (λ (o : Option ℕ). o ≡ Some k → get_or (b ∷ bs) (j - (at + seen)) 0 ≡ 96) (eqb seen n) (Some at) (run_at n 0 (at + seen + 1) bs)
    (λ g e. let same : at ≡ k = cc in let full : seen ≡ n = eqb-true seen n g in absurd (omega arith))
    (λ g e. let late : at + seen + 1 ≤ k = run_late n 0 (at + seen + 1) k bs e in
    let next : j - (at + seen) ≡ suc (j - (at + seen + 1 + 0)) = omega arith in
    ap (λ i. get_or (b ∷ bs) i 0) next ∙ run_bytes n 0 (at + seen + 1) k j bs e low high (omega arith))) e

-- a code span's bytes at both ends of its text
pub code_byte : (rest : List ℕ) (marks k j : ℕ) → run_at marks 0 0 (drop marks rest) ≡ Some k → k ≤ j → j < k + marks → get_or rest (marks + j) 0 ≡ 96
code_byte rest marks k j e low high = sym (get_or-drop marks rest j 0) ∙ ap (λ i. get_or (drop marks rest) i 0) (minus j) ∙ run_bytes marks 0 0 k j (drop marks rest) e low high (omega arith)
  where
    minus : (j : ℕ) → j ≡ j - (0 + 0)
    minus j = omega arith

no_code_ends : (rest : List ℕ) → get_or rest 0 0 < 128 → Ends rest (code_by rest None)
no_code_ends rest h = inl (count_ends_by 96 rest (count_in_front 96 rest) refl h (omega arith))

code_some_ends : (rest : List ℕ) (marks : ℕ) (o : Option ℕ) → get_or rest 0 0 < 128 → 0 < marks → run_at marks 0 0 (drop marks rest) ≡ o → Ends rest (code_by rest (option_map (code_with marks) o))
code_some_ends rest marks None h some e = no_code_ends rest h
code_some_ends rest marks (Some k) h some e =
    let there : (marks + k + marks) - 1 ≡ marks + ((k + marks) - 1) = omega arith in
    let byte : get_or rest (marks + ((k + marks) - 1)) 0 ≡ 96 = code_byte rest marks k ((k + marks) - 1) e (omega arith) (omega arith) in
    inl (byte_small rest ((marks + k + marks) - 1) 96 (ap (λ i. get_or rest i 0) there ∙ byte) (omega arith))

code_ends : (rest : List ℕ) → get_or rest 0 0 < 128 → Ends rest (code_piece rest)
code_ends rest h =
    let marks : ℕ = count_in_front 96 rest in
    by_cond (λ (o : Option Code). Ends rest (code_by rest o)) (eqb marks 0) None (option_map (code_with marks) (run_at marks 0 0 (drop marks rest)))
    (λ e. no_code_ends rest h) (λ e. code_some_ends rest marks (run_at marks 0 0 (drop marks rest)) h (grind (arith, nat_tests)) refl)

-- ---- escapes and entities

ascii_punctuation : (b : ℕ) → is_ascii_punctuation b ≡ true → b < 128
ascii_punctuation b h = grind (arith, nat_tests)

escape_ends_by : (first : ℕ) (bs : List ℕ) → first < 128 → Ends (first ∷ bs) (escape_piece bs)
escape_ends_by first [] h = inl h
escape_ends_by first (b ∷ bs) h =
    by_cond (λ (e : Escape). Ends (first ∷ b ∷ bs) (escape_by e)) (eqb b 10) Break _
    (λ k. inl (byte_small (first ∷ b ∷ bs) 1 10 (eqb-true b 10 k) (omega arith)))
    (λ k. by_cond (λ (e : Escape). Ends (first ∷ b ∷ bs) (escape_by e)) (is_ascii_punctuation b) (SignEscape b) Itself (λ p. inl (ascii_punctuation b p)) (λ p. inl h))

-- an entity of so many bytes, the first few of which are before these, ends with a semicolon
pub record EndsEntity (before : ℕ) (bytes : List ℕ) (entity : Entity) : Type 0 where
  pub n : ℕ
  pub len : entity.len ≡ n + 1 + before
  pub byte : get_or bytes n 0 ≡ 59

-- an entity that is found ends so
abbrev pub GivesEntity : ℕ → List ℕ → Option Entity → Type 0
GivesEntity before bytes o = (entity : Entity) → o ≡ Some entity → EndsEntity before bytes entity

no_entity : (before : ℕ) (bytes : List ℕ) → GivesEntity before bytes None
no_entity before bytes entity e = absurd (no entity e)
  where
    no : (entity : Entity) → None ≡ Some entity → ⊥
    no entity e = cc

one_entity : (before : ℕ) (bytes : List ℕ) (len n c : ℕ) → get_or bytes n 0 ≡ 59 → len ≡ n + 1 + before → GivesEntity before bytes (Some (with_char len c))
one_entity before bytes len n c h l entity e =
    let same : with_char len c ≡ entity = cc in
    subst (λ (x : Entity). EndsEntity before bytes x) same (record { n = n; len = l; byte = h })

entity_before : (before : ℕ) (bytes : List ℕ) (o : Option Entity) → GivesEntity (before + 1) (drop 1 bytes) o → GivesEntity before bytes o
entity_before before bytes o g entity e =
    let found : EndsEntity (before + 1) (drop 1 bytes) entity = g entity e in
    record { n = 1 + found.n; len = omega (arith, found.len); byte = sym (get_or-drop 1 bytes found.n 0) ∙ found.byte }

-- a semicolon, by the test that finds none
semicolon : (len : ℕ) (bytes : List ℕ) (x y : Bool) → (x || y || not (eqb (first (drop len bytes)) 59)) ≡ false → get_or bytes len 0 ≡ 59
semicolon len bytes x y h = semicolon_by bytes (eqb (first (drop len bytes)) 59) x y refl h
  where
    at_zero : (n : ℕ) → n + 0 ≡ n
    at_zero n = omega arith

    there : (bs : List ℕ) → eqb (first (drop len bs)) 59 ≡ true → get_or bs len 0 ≡ 59
    there bs e = ap (λ i. get_or bs i 0) (sym (at_zero len)) ∙ sym (get_or-drop len bs 0 0) ∙ eqb-true (first (drop len bs)) 59 e

    no : true ≡ false → ⊥
    no e = cc

    semicolon_by : (bs : List ℕ) (t x y : Bool) → eqb (first (drop len bs)) 59 ≡ t → (x || y || not t) ≡ false → get_or bs len 0 ≡ 59
    semicolon_by bs true x y e h = there bs e
    semicolon_by bs false true y e h = absurd (no h)
    semicolon_by bs false false true e h = absurd (no h)
    semicolon_by bs false false false e h = absurd (no h)

hexadecimal_ends : (bytes : List ℕ) → GivesEntity 2 bytes (hexadecimal bytes)
hexadecimal_ends bytes =
    let len : ℕ = prefix_len is_ascii_hexdigit bytes in
    by_cond (GivesEntity 2 bytes) (eqb len 0 || leb (suc 6) len || not (eqb (first (drop len bytes)) 59)) None _ (λ h. no_entity 2 bytes)
    (λ h. one_entity 2 bytes (len + 3) len (char_of (value_after 0 (take len bytes))) (semicolon len bytes (eqb len 0) (leb (suc 6) len) h) (omega arith))

decimal_ends : (bytes : List ℕ) → GivesEntity 1 bytes (decimal bytes)
decimal_ends bytes =
    let len : ℕ = prefix_len is_ascii_digit bytes in
    by_cond (GivesEntity 1 bytes) (eqb len 0 || leb (suc 7) len || not (eqb (first (drop len bytes)) 59)) None _ (λ h. no_entity 1 bytes)
    (λ h. one_entity 1 bytes (len + 2) len (char_of (digits_value 10 (take len bytes))) (semicolon len bytes (eqb len 0) (leb (suc 7) len) h) (omega arith))

numeric_ends : (bytes : List ℕ) → GivesEntity 1 bytes (numeric bytes)
numeric_ends bytes =
    by_cond (GivesEntity 1 bytes) (eqb (first bytes) 120 || eqb (first bytes) 88) (hexadecimal (drop 1 bytes)) (decimal bytes)
    (λ h. entity_before 1 bytes (hexadecimal (drop 1 bytes)) (hexadecimal_ends (drop 1 bytes))) (λ h. decimal_ends bytes)

name_ends : (len : ℕ) (bytes : List ℕ) (o : Option Named) → get_or bytes len 0 ≡ 59 → GivesEntity 0 bytes (option_map (with_named (len + 1)) o)
name_ends len bytes None h entity e = no_entity 0 bytes entity e
name_ends len bytes (Some n) h entity e =
    let same : with_named (len + 1) n ≡ entity = cc in
    subst (λ (x : Entity). EndsEntity 0 bytes x) same (record { n = len; len = omega arith; byte = h })

named_ends : (bytes : List ℕ) → GivesEntity 0 bytes (named bytes)
named_ends bytes =
    let len : ℕ = prefix_len is_ascii_alphanumeric bytes in
    by_cond (GivesEntity 0 bytes) (eqb (first (drop len bytes)) 59) (option_map (with_named (len + 1)) (characters_named (take len bytes))) None
    (λ h. name_ends len bytes (characters_named (take len bytes)) (let zero_more : len + 0 ≡ len = omega arith in ap (λ i. get_or bytes i 0) (sym zero_more) ∙ sym (get_or-drop len bytes 0 0) ∙ eqb-true (first (drop len bytes)) 59 h))
    (λ h. no_entity 0 bytes)

-- so does each that a rest begins with
pub entity_ends : (bytes : List ℕ) → GivesEntity 0 bytes (entity_of bytes)
entity_ends bytes =
    by_cond (GivesEntity 0 bytes) (eqb (first bytes) 35) (numeric (drop 1 bytes)) (named bytes)
    (λ h. entity_before 0 bytes (numeric (drop 1 bytes)) (numeric_ends (drop 1 bytes))) (λ h. named_ends bytes)

-- a piece that an entity is ends so
pub entity_ends_by : (rest : List ℕ) (o : Option Entity) → get_or rest 0 0 < 128 → GivesEntity 0 (drop 1 rest) o → Ends rest (entity_by o)
entity_ends_by rest None h g = inl h
entity_ends_by rest (Some entity) h g =
    let found : EndsEntity 0 (drop 1 rest) entity = g entity refl in
    let there : entity.len ≡ 1 + found.n = omega (arith, found.len) in
    ends_at rest entity.len 59 (ap (λ i. get_or rest i 0) there ∙ sym (get_or-drop 1 rest found.n 0) ∙ found.byte) (omega arith)

-- ---- addresses

domain_ends : (count : ℕ) (hyphen : Bool) (bytes : List ℕ) → Gives (EndsBy 62 bytes) (after_domain count hyphen bytes)
unfolding after_domain
domain_ends count hyphen [] = gives_none (EndsBy 62 [])
domain_ends count hyphen (b ∷ bs) =
    let P : Domain → Type 0 = λ d. Gives (EndsBy 62 (b ∷ bs)) (domain_next d (Some bs) (λ c h. after_domain c h bs)) in
    let on : (c : ℕ) (h : Bool) → P (On c h) = λ c h a e. ends_cons 62 b bs a (domain_ends c h bs a e) in
    let none : P No = gives_none (EndsBy 62 (b ∷ bs)) in
    by_cond P (is_ascii_alphanumeric b) (cond (ltb count 63) (On (count + 1) false) No) _ (λ h. by_cond P (ltb count 63) (On (count + 1) false) No (λ k. on (count + 1) false) (λ k. none))
    (λ h1. by_cond P (eqb b 45) (cond (ltb 0 count && ltb count 63) (On (count + 1) true) No) _ (λ h. by_cond P (ltb 0 count && ltb count 63) (On (count + 1) true) No (λ k. on (count + 1) true) (λ k. none))
    (λ h2. by_cond P (eqb b 46) (cond (may_end count hyphen) (On 0 false) No) _ (λ h. by_cond P (may_end count hyphen) (On 0 false) No (λ k. on 0 false) (λ k. none))
    (λ h3. by_cond P (eqb b 62 && may_end count hyphen) EndsDomain No
    (λ h. let both = and_parts (eqb b 62) (may_end count hyphen) h in gives_some (EndsBy 62 (b ∷ bs)) bs (ends_here 62 b bs (eqb-true b 62 both.0))) (λ h. none))))

email_ends_by : (before : ℕ) (bytes : List ℕ) (o : Option (List ℕ)) → Gives (EndsBy 62 (drop (before + 1) bytes)) o
    → GivesLen (λ len. get_or bytes len 0 ≡ 62) (option_map (λ (after : List ℕ). (length bytes - length after) - 1) o)
email_ends_by before bytes None g = len_none (λ len. get_or bytes len 0 ≡ 62)
email_ends_by before bytes (Some a) g =
    let rest : List ℕ = drop (before + 1) bytes in
    let ends : EndsBy 62 rest a = g a refl in
    let all : length rest ≡ length bytes - (before + 1) = length-drop (before + 1) bytes in
    let left : length a ≡ length rest - suc ends.n = sym (ap length ends.is) ∙ length-drop (suc ends.n) rest in
    let last : (length bytes - length a) - 1 ≡ before + 1 + ends.n = omega (arith, all, left, ends.few) in
    len_some (λ len. get_or bytes len 0 ≡ 62) ((length bytes - length a) - 1) (ap (λ i. get_or bytes i 0) last ∙ sym (get_or-drop (before + 1) bytes ends.n 0) ∙ ends.byte)

email_ends : (bytes : List ℕ) → GivesLen (λ len. get_or bytes len 0 ≡ 62) (email_len bytes)
email_ends bytes =
    let before : ℕ = prefix_len is_local_byte bytes in
    by_cond (GivesLen (λ len. get_or bytes len 0 ≡ 62)) (eqb before 0 || not (eqb (first (drop before bytes)) 64)) None _ (λ h. len_none (λ len. get_or bytes len 0 ≡ 62))
    (λ h. email_ends_by before bytes (after_domain 0 false (drop (before + 1) bytes)) (domain_ends 0 false (drop (before + 1) bytes)))

ended_ends : (len : ℕ) (bytes : List ℕ) → GivesLen (λ n. get_or bytes n 0 ≡ 62) (ended_at len bytes)
ended_ends len bytes =
    by_cond (GivesLen (λ n. get_or bytes n 0 ≡ 62)) (eqb (first (drop len bytes)) 62) (Some len) None
    (λ h. len_some (λ n. get_or bytes n 0 ≡ 62) len (let zero_more : len + 0 ≡ len = omega arith in ap (λ i. get_or bytes i 0) (sym zero_more) ∙ sym (get_or-drop len bytes 0 0) ∙ eqb-true (first (drop len bytes)) 62 h))
    (λ h. len_none (λ n. get_or bytes n 0 ≡ 62))

uri_ends : (bytes : List ℕ) → GivesLen (λ n. get_or bytes n 0 ≡ 62) (uri_len bytes)
uri_ends bytes =
    let scheme : ℕ = prefix_len is_scheme_byte bytes in
    by_cond (GivesLen (λ n. get_or bytes n 0 ≡ 62)) (has_scheme bytes scheme) (ended_at (scheme + 1 + prefix_len is_address_byte (drop (scheme + 1) bytes)) bytes) None
    (λ h. ended_ends (scheme + 1 + prefix_len is_address_byte (drop (scheme + 1) bytes)) bytes) (λ h. len_none (λ n. get_or bytes n 0 ≡ 62))

or_ends : (bytes : List ℕ) (o q : Option ℕ) → GivesLen (λ n. get_or bytes n 0 ≡ 62) o → GivesLen (λ n. get_or bytes n 0 ≡ 62) q → GivesLen (λ n. get_or bytes n 0 ≡ 62) (or_len o q)
or_ends bytes None q f g = g
or_ends bytes (Some len) q f g = f

-- a closing angle bracket is behind an address
pub address_ends : (bytes : List ℕ) → GivesLen (λ n. get_or bytes n 0 ≡ 62) (address_len bytes)
address_ends bytes = or_ends bytes (uri_len bytes) (email_len bytes) (uri_ends bytes) (email_ends bytes)

html_ends_by : (rest : List ℕ) (o : Option (List ℕ)) → get_or rest 0 0 < 128 → Gives (EndsBy 62 (drop 1 rest)) o → Ends rest (html_by (drop 1 rest) (option_map (λ (after : List ℕ). length (drop 1 rest) - length after) o))
html_ends_by rest None h g = inl h
html_ends_by rest (Some a) h g =
    let bytes : List ℕ = drop 1 rest in
    let ends : EndsBy 62 bytes a = g a refl in
    let left : length a ≡ length bytes - suc ends.n = sym (ap length ends.is) ∙ length-drop (suc ends.n) bytes in
    let last : length bytes - length a ≡ 1 + ends.n = omega (arith, left, ends.few) in
    ends_at rest (length bytes - length a) 62 (ap (λ i. get_or rest i 0) last ∙ sym (get_or-drop 1 rest ends.n 0) ∙ ends.byte) (omega arith)

angle_ends_by : (rest : List ℕ) (o : Option ℕ) → get_or rest 0 0 < 128 → GivesLen (λ n. get_or (drop 1 rest) n 0 ≡ 62) o → Ends rest (angle_by (drop 1 rest) o)
unfolding html_piece
angle_ends_by rest None h g = html_ends_by rest (html_end (drop 1 rest)) h (html_ends (drop 1 rest))
angle_ends_by rest (Some len) h g =
    let swap : len + 1 ≡ 1 + len = omega arith in
    ends_at rest (len + 1) 62 (ap (λ i. get_or rest i 0) swap ∙ sym (get_or-drop 1 rest len 0) ∙ g len refl) (omega arith)

-- ---- blanks, and what has no mark

blank_byte : (b : ℕ) → is_blank_byte b ≡ true → b < 128
blank_byte b h = grind (arith, nat_tests)

break_ends : (rest : List ℕ) → ends_line rest ≡ true → Ends rest (break_piece rest)
break_ends rest e =
    let n : ℕ = prefix_len is_blank_byte rest in
    let zero_more : n + 0 ≡ n = omega arith in
    let line : get_or rest n 0 ≡ 10 = ap (λ i. get_or rest i 0) (sym zero_more) ∙ sym (get_or-drop n rest 0 0) ∙ eqb-true (first (drop n rest)) 10 e in
    by_cond (Ends rest) (is_hard rest n) _ _ (λ k. ends_at rest n 10 line (omega arith)) (λ k. ends_at rest n 10 line (omega arith))

not_plain : (b : ℕ) → is_plain b ≡ false → b < 128
not_plain b h = grind (arith, nat_tests)

not_staying : (b : ℕ) (rest : List ℕ) (plain : Bool) → is_plain b ≡ plain → (plain || (is_blank_byte b && not (ends_line rest))) ≡ false → b < 128
not_staying b rest false p h = not_plain b p
not_staying b rest true p h = absurd (no h)
  where
    no : true ≡ false → ⊥
    no e = cc

-- bytes that stand for themselves end before one that doesn't, or before an address
found_small : (free : Bool) (before : Option ℕ) (bytes : List ℕ) → is_some (bare_if free before bytes) ≡ true → get_or bytes 0 0 < 128
found_small true before bytes h = bare_first before bytes h
found_small false before bytes h = absurd (no h)
  where
    no : false ≡ true → ⊥
    no e = cc

stop_small : (free stay : Bool) (before : Option ℕ) (b : ℕ) (bs : List ℕ) (found : Bool) → stays b (b ∷ bs) ≡ stay → is_some (bare_if free before (b ∷ bs)) ≡ found → (stay && not found) ≡ false → b < 128
stop_small free false before b bs found p f h = not_staying b (b ∷ bs) (is_plain b) refl p
stop_small free true before b bs true p f h = found_small free before (b ∷ bs) f
stop_small free true before b bs false p f h = absurd (no h)
  where
    no : true ≡ false → ⊥
    no e = cc

plain_stop : (free : Bool) (before : Option ℕ) (bs : List ℕ) → get_or bs (plain_from free before bs) 0 < 128
unfolding plain_from
plain_stop free before [] = omega arith
plain_stop free before (b ∷ bs) =
    by_cond (λ (n : ℕ). get_or (b ∷ bs) n 0 < 128) (stays b (b ∷ bs) && not (is_some (bare_if free before (b ∷ bs)))) (suc (plain_from free (Some b) bs)) 0
    (λ h. plain_stop free (Some b) bs) (λ h. stop_small free (stays b (b ∷ bs)) before b bs (is_some (bare_if free before (b ∷ bs))) refl refl h)

plain_ends_by : (free : Bool) (before : Option ℕ) (b : ℕ) (rest : List ℕ) (o : Option Bare) → bare_if free before rest ≡ o → Ends rest (plain_by o free b rest)
plain_ends_by free before b rest None e =
    let n : ℕ = plain_from free (Some b) (drop 1 rest) in
    let swap : 1 + n ≡ n + 1 = omega arith in
    inr (subst (λ (i : ℕ). get_or rest i 0 < 128) swap (subst (λ (c : ℕ). c < 128) (get_or-drop 1 rest n 0) (plain_stop free (Some b) (drop 1 rest))))
plain_ends_by true before b rest (Some bare) e = (bare_ends before rest bare e).ends
plain_ends_by false before b rest (Some bare) e = absurd (no e)
  where
    no : None ≡ Some bare → ⊥
    no e = cc

no_mark_ends : (free : Bool) (before : Option ℕ) (b : ℕ) (rest : List ℕ) → get_or rest 0 0 ≡ b → Ends rest (no_mark_piece free before b rest)
unfolding plain_piece
no_mark_ends free before b rest e =
    by_cond (Ends rest) (ends_line rest) (break_piece rest) _ (λ h. break_ends rest h)
    (λ h. plain_ends_by free before b rest (bare_if free before rest) refl)

-- ---- all of them

escape_ends : (rest : List ℕ) → get_or rest 0 0 < 128 → 0 < length rest → Ends rest (escape_piece (drop 1 rest))
escape_ends [] h some = absurd (omega arith)
escape_ends (b ∷ bs) h some = escape_ends_by b bs h

-- each piece that is no bracket ends so
pub piece_ends : (free : Bool) (b : ℕ) (text : List ℕ) (at : ℕ) (rest : List ℕ) → get_or rest 0 0 ≡ b → 0 < length rest → Ends rest (piece_by free b text at rest)
piece_ends free b text at rest e some =
    let small : (n : ℕ) → eqb b n ≡ true → n < 128 → get_or rest 0 0 < 128 = λ n h l. let same : b ≡ n = eqb-true b n h in omega (arith, e, same) in
    let P : Piece → Type 0 = Ends rest in
    by_cond P (eqb b 96) (code_piece rest) _ (λ h. code_ends rest (small 96 h (omega arith)))
    (λ h1. by_cond P (eqb b 42) (run_piece Star text at rest) _ (λ h. run_ends Star text at rest (small 42 h (omega arith)))
    (λ h2. by_cond P (eqb b 95) (run_piece Underscore text at rest) _ (λ h. run_ends Underscore text at rest (small 95 h (omega arith)))
    (λ h3. by_cond P (eqb b 126) (run_piece Tilde text at rest) _ (λ h. run_ends Tilde text at rest (small 126 h (omega arith)))
    (λ h4. by_cond P (eqb b 92) (escape_piece (drop 1 rest)) _ (λ h. escape_ends rest (small 92 h (omega arith)) some)
    (λ h5. by_cond P (eqb b 38) (entity_piece (drop 1 rest)) _ (λ h. entity_ends_by rest (entity_of (drop 1 rest)) (small 38 h (omega arith)) (entity_ends (drop 1 rest)))
    (λ h6. by_cond P (eqb b 60) (angle_piece (drop 1 rest)) (no_mark_piece free (byte_before text at) b rest) (λ h. angle_ends_by rest (address_len (drop 1 rest)) (small 60 h (omega arith)) (address_ends (drop 1 rest)))
    (λ h7. no_mark_ends free (byte_before text at) b rest e)))))))
