-- The parts of a page read back from what they are written as.
use Rattle.std.proofs.Common.{◌≡◌, ℕ, ◌<◌, Bool, true, false, ◌&&◌, List, [], ◌∷◌, ◌++◌, map, Option, Some, None, Ok, refl, ap, sym, ◌∙◌, subst, arith, append-nil, append_assoc}
use Rattle.std.specs.Prelude.{codes, if◌then◌else◌, nat_lt, not, Err, Result}
use Rattle.std.specs.List.{All, AllByRecursion}
use Rattle.std.specs.declared.cmp.Ordering.{Ordering}
use Rattle.std.specs.declared.cmp.Ordering.TheVariants.{Less, Equal, Greater}
use Rattle.std.specs.Ordering.{is_eq, match_ordering, nat_cmp}
use Rattle.std.specs.Cmp.{Equal-is}
use Rattle.std.specs.Cmp.Lexicographic.{slice_cmp}
use Rattle.std.specs.Str.{bytes_eq}
use Rattle.std.proofs.lemmas.Bool.{false≢true}
use Rattle.std.proofs.lemmas.Bool.Decides.{nat_tests}
use Rattle.std.proofs.lemmas.List.Elements.{All-head, All-tail}
use Rattle.std.proofs.lemmas.Map.Lookups.{exact_bytes}
use Rattle.std.proofs.lemmas.Map.Text.{is_eq-slice_cmp}
use Rattle.std.proofs.lemmas.Slice.Eq.{bytes_eq-Decides}
use Rattle.serde_json.specs.Data.{Data, Members, boolean, member, no_members, number, object, put, unsigned}
use Rattle.serde_json.specs.Find.{get_member}
use Rattle.mad_style.specs.declared.compound_styles.CompoundStyle.{CompoundStyle}
use Rattle.mad_style.specs.declared.styled_chars.StyledChar.{StyledChar}
use Rattle.mad_parse.specs.ReadsBack.{IsReadBackChar, IsReadBackStyle}
use Rattle.mad_parse.specs.TokenStyles.{style_of, styled_char_of}
use Rattle.mad_parse.specs.declared.tokens.StyleToken.{StyleToken}
use Rattle.mad_dressing.specs.declared.heading_marks.HeadingMarks.{HeadingMarks}
use Rattle.mad_layout.specs.declared.skin.MadSkin.{MadSkin}
use Rattle.mad_page_skin.specs.declared.page_skin.PageSkin.{PageSkin}
use Rattle.mad_page_skin.specs.declared.text_room.TextRoom.{TextRoom}
use Rattle.mad_json.specs.Faults.{SkinFault, at_key, wrong_kind}
use Rattle.mad_json.specs.ReadsBack.{ReadsBackChar, ReadsBackStyle}
use Rattle.mad_json.specs.Texts.{and_next, of_text, value_said}
use Rattle.mad_json.specs.Written.{char_data, style_data}
use Rattle.mad_page_json.specs.Lookups.{at_fault, choice_found, choice_under, columns_found, headings_under, part_found, parts_under, room_under, rules_found}
use Rattle.mad_page_json.specs.Named.{named_said}
use Rattle.mad_page_json.specs.PageReading.{page_of, page_under}
use Rattle.mad_page_json.specs.PageReadsBack.{PageReadsBack}
use Rattle.mad_page_json.specs.PageWriting.{first_members, page_data, with_parts}
use Rattle.mad_page_json.specs.Parts.{char_parts, style_parts}
use Rattle.mad_page_json.specs.declared.named.Named.{Named}

-- both of two that are true together are true
pub both_true : (a b : Bool) → (a && b) ≡ true → (a ≡ true) × (b ≡ true)
both_true true b h = (refl, h)
both_true false b h = absurd (false≢true h)

is_not : (a : Bool) → not a ≡ true → a ≡ false
is_not true h = absurd (false≢true h)
is_not false h = refl

-- ---- members

same_key : (k : List ℕ) → slice_cmp nat_cmp k k ≡ Equal
same_key k = (Equal-is (slice_cmp nat_cmp k k)).0 (is_eq-slice_cmp k k ∙ (bytes_eq-Decides k k).1 refl)

found_first : (k : List ℕ) (d : Data) (ms : Members) → get_member k (member k d ms) ≡ Some d
found_first k d ms = ap (λ (o : Ordering). match_ordering o (get_member k ms) (Some d) (get_member k ms)) (same_key k)

-- what was put under a key is found there
pub get_same : (k : List ℕ) (d : Data) (ms : Members) → get_member k (put k d ms) ≡ Some d
get_same k d no_members = found_first k d no_members
get_same k d (member l e ms) =
    elim (slice_cmp nat_cmp k l) as (λ o. slice_cmp nat_cmp k l ≡ o → get_member k (match_ordering o (member k d (member l e ms)) (member l d ms) (member l e (put k d ms))) ≡ Some d) [
      | Less ↦ λ is. found_first k d (member l e ms)
      | Equal ↦ λ is. ap (λ (o : Ordering). match_ordering o (get_member k ms) (Some d) (get_member k ms)) is
      | Greater ↦ λ is. ap (λ (o : Ordering). match_ordering o (get_member k (put k d ms)) (Some e) (get_member k (put k d ms))) is ∙ get_same k d ms
    ] refl

passed : {X : Type 0} (o : Ordering) (x y : X) → is_eq o ≡ false → match_ordering o x y x ≡ x
passed Less x y h = refl
passed Equal x y h = absurd (false≢true (sym h))
passed Greater x y h = refl

-- what was put under another key leaves it
get_other : (k l : List ℕ) (d : Data) (ms : Members) → bytes_eq k l ≡ false → get_member k (put l d ms) ≡ get_member k ms
get_other k l d no_members h = passed (slice_cmp nat_cmp k l) None (Some d) (is_eq-slice_cmp k l ∙ h)
get_other k l d (member m e ms) h =
    elim (slice_cmp nat_cmp l m) as (λ o. slice_cmp nat_cmp l m ≡ o → get_member k (match_ordering o (member l d (member m e ms)) (member m d ms) (member m e (put l d ms))) ≡ get_member k (member m e ms)) [
      | Less ↦ λ is. passed (slice_cmp nat_cmp k l) (get_member k (member m e ms)) (Some d) (is_eq-slice_cmp k l ∙ h)
      | Equal ↦ λ is.
          let apart : is_eq (slice_cmp nat_cmp k m) ≡ false = subst (λ (n : List ℕ). is_eq (slice_cmp nat_cmp k n) ≡ false) (exact_bytes l m is) (is_eq-slice_cmp k l ∙ h) in
          passed (slice_cmp nat_cmp k m) (get_member k ms) (Some d) apart ∙ sym (passed (slice_cmp nat_cmp k m) (get_member k ms) (Some e) apart)
      | Greater ↦ λ is. ap (λ (found : Option Data). match_ordering (slice_cmp nat_cmp k m) found (Some e) found) (get_other k l d ms h)
    ] refl

-- ---- parts under their keys

-- no part has this key
abbrev no_key : {S : Type 0} → List ℕ → List (List ℕ × S) → Bool
no_key key [] = true
no_key key (named ∷ parts) = not (bytes_eq key named.0) && no_key key parts

-- no part has the key of another
abbrev are_new : {S : Type 0} → List (List ℕ × S) → Bool
are_new [] = true
are_new (named ∷ parts) = no_key named.0 parts && are_new parts

-- no part has a key of these others
abbrev are_apart : {S T : Type 0} → List (List ℕ × S) → List (List ℕ × T) → Bool
are_apart [] others = true
are_apart (named ∷ parts) others = no_key named.0 others && are_apart parts others

get_past : {S : Type 0} (shown : S → Data) (key : List ℕ) (parts : List (List ℕ × S)) (ms : Members) → no_key key parts ≡ true → get_member key (with_parts shown parts ms) ≡ get_member key ms
get_past shown key [] ms h = refl
get_past shown key (named ∷ parts) ms h =
    let both = both_true (not (bytes_eq key named.0)) (no_key key parts) h in
    get_past shown key parts (put named.0 (shown named.1) ms) both.1 ∙ get_other key named.0 (shown named.1) ms (is_not (bytes_eq key named.0) both.0)

-- the parts are found under their keys
abbrev AreThere : {S : Type 0} → (S → Data) → Members → List (List ℕ × S) → Type 0
AreThere {S} shown ms parts = AllByRecursion (λ (named : List ℕ × S). get_member named.0 ms ≡ Some (shown named.1)) parts

all_there : {S : Type 0} (shown : S → Data) (parts : List (List ℕ × S)) (ms : Members) → are_new parts ≡ true → AreThere shown (with_parts shown parts ms) parts
all_there shown [] ms h = tt
all_there shown (named ∷ parts) ms h =
    let both = both_true (no_key named.0 parts) (are_new parts) h in
    (get_past shown named.0 parts (put named.0 (shown named.1) ms) both.0 ∙ get_same named.0 (shown named.1) ms, all_there shown parts (put named.0 (shown named.1) ms) both.1)

all_kept : {S T : Type 0} (shown : S → Data) (said : T → Data) (parts : List (List ℕ × T)) (others : List (List ℕ × S)) (ms : Members) → are_apart parts others ≡ true → AreThere said ms parts → AreThere said (with_parts shown others ms) parts
all_kept shown said [] others ms h there = tt
all_kept shown said (named ∷ parts) others ms h there =
    let both = both_true (no_key named.0 others) (are_apart parts others) h in
    (get_past shown named.0 others ms both.0 ∙ there.0, all_kept shown said parts others ms both.1 there.1)

-- each part is read from what it is written as
abbrev AreSaid : {A : Type 0} → (List StyleToken → A) → (A → Data) → List (List ℕ × A) → Type 0
AreSaid {A} f shown parts = AllByRecursion (λ (named : List ℕ × A). value_said f (shown named.1) ≡ Ok named.1) parts

parts_back : {A : Type 0} (f : List StyleToken → A) (shown : A → Data) (ms : Members) (olds parts : List (List ℕ × A)) (said : List A) → map (λ (named : List ℕ × A). named.0) olds ≡ map (λ (named : List ℕ × A). named.0) parts
    → AreSaid f shown parts → AreThere shown ms parts → parts_under f (object ms) olds said ≡ Ok (said ++ map (λ (named : List ℕ × A). named.1) parts)
parts_back f shown ms [] [] said same reads there = ap Ok (sym (append-nil said))
parts_back f shown ms [] (p ∷ parts) said same reads there = absurd cc
parts_back f shown ms (o ∷ olds) [] said same reads there = absurd cc
parts_back {A} f shown ms (o ∷ olds) (p ∷ parts) said same reads there =
    let key : o.0 ≡ p.0 = cc in
    let keys : map (λ (named : List ℕ × A). named.0) olds ≡ map (λ (named : List ℕ × A). named.0) parts = cc in
    let one : part_found f o.0 o.1 (get_member o.0 ms) ≡ Ok p.1 =
    ap (part_found f o.0 o.1) (ap (λ (k : List ℕ). get_member k ms) key ∙ there.0) ∙ ap (at_fault o.0) reads.0 in
    ap (λ (r : Result A SkinFault). and_next r (λ part. parts_under f (object ms) olds (said ++ part ∷ []))) one
    ∙ parts_back f shown ms olds parts (said ++ p.1 ∷ []) keys reads.1 there.1
    ∙ ap Ok (append_assoc said (p.1 ∷ []) (map (λ (named : List ℕ × A). named.1) parts))

styles_said : (parts : List (List ℕ × CompoundStyle)) → AllByRecursion (λ (named : List ℕ × CompoundStyle). ReadsBackStyle named.1) parts → AllByRecursion (λ (named : List ℕ × CompoundStyle). IsReadBackStyle named.1) parts → AreSaid style_of style_data parts
styles_said [] reads written = tt
styles_said (named ∷ parts) reads written = (ap of_text (reads.0 written.0), styles_said parts reads.1 written.1)

chars_said : (parts : List (List ℕ × StyledChar)) → AllByRecursion (λ (named : List ℕ × StyledChar). ReadsBackChar named.1) parts → AllByRecursion (λ (named : List ℕ × StyledChar). IsReadBackChar named.1) parts → AreSaid (styled_char_of 42) char_data parts
chars_said [] reads written = tt
chars_said (named ∷ parts) reads written = (ap of_text (reads.0 written.0 42), chars_said parts reads.1 written.1)

-- ---- a page

-- what is read of the last member behind those before
abbrev words_after : Members → HeadingMarks → ℕ → Bool → Result HeadingMarks SkinFault
words_after ms old r s = and_next (choice_found (codes "marks") (get_member (codes "marks") ms) old.words) (λ w. Ok (record { rules = r; signs = s; words = w }))

headings_back : (ms : Members) (headings old : HeadingMarks) → headings.rules < 256 → get_member (codes "rules") ms ≡ Some (number (unsigned headings.rules)) → get_member (codes "signs") ms ≡ Some (boolean headings.signs)
    → get_member (codes "marks") ms ≡ Some (boolean headings.words) → headings_under (object ms) old ≡ Ok headings
headings_back ms headings old small rules signs words =
    let fits : nat_lt headings.rules 256 ≡ true = grind (arith, nat_tests, small) in
    ap (λ (found : Option Data). and_next (rules_found found old.rules) (λ r. and_next (choice_found (codes "signs") (get_member (codes "signs") ms) old.signs) (λ s. words_after ms old r s))) rules
    ∙ ap (λ (t : Bool). and_next (if t then Ok headings.rules else Err (at_key (codes "rules") wrong_kind)) (λ r. and_next (choice_found (codes "signs") (get_member (codes "signs") ms) old.signs) (λ s. words_after ms old r s))) fits
    ∙ ap (λ (found : Option Data). and_next (choice_found (codes "signs") found old.signs) (λ s. words_after ms old headings.rules s)) signs
    ∙ ap (λ (found : Option Data). and_next (choice_found (codes "marks") found old.words) (λ w. Ok (record { rules = headings.rules; signs = headings.signs; words = w }))) words

room_back : (ms : Members) (room old : TextRoom) → room.columns < 65536 → room.margin < 65536 → get_member (codes "columns") ms ≡ Some (number (unsigned room.columns)) → get_member (codes "margin") ms ≡ Some (number (unsigned room.margin))
    → room_under (object ms) old ≡ Ok room
room_back ms room old columns_small margin_small columns margin =
    let columns_fit : nat_lt room.columns 65536 ≡ true = grind (arith, nat_tests, columns_small) in
    let margin_fits : nat_lt room.margin 65536 ≡ true = grind (arith, nat_tests, margin_small) in
    ap (λ (found : Option Data). and_next (columns_found (codes "columns") found old.columns) (λ c. and_next (columns_found (codes "margin") (get_member (codes "margin") ms) old.margin) (λ m. Ok (record { margin = m; columns = c })))) columns
    ∙ ap (λ (t : Bool). and_next (if t then Ok room.columns else Err (at_key (codes "columns") wrong_kind)) (λ c. and_next (columns_found (codes "margin") (get_member (codes "margin") ms) old.margin) (λ m. Ok (record { margin = m; columns = c })))) columns_fit
    ∙ ap (λ (found : Option Data). and_next (columns_found (codes "margin") found old.margin) (λ m. Ok (record { margin = m; columns = room.columns }))) margin
    ∙ ap (λ (t : Bool). and_next (if t then Ok room.margin else Err (at_key (codes "margin") wrong_kind)) (λ m. Ok (record { margin = m; columns = room.columns }))) margin_fits

-- what is found before the parts is found in the whole
found_before : (skin : PageSkin) (key : List ℕ) → no_key key (style_parts skin) ≡ true → no_key key (char_parts skin) ≡ true
    → get_member key (with_parts style_data (style_parts skin) (with_parts char_data (char_parts skin) (first_members skin))) ≡ get_member key (first_members skin)
found_before skin key styles chars =
    get_past style_data key (style_parts skin) (with_parts char_data (char_parts skin) (first_members skin)) styles ∙ get_past char_data key (char_parts skin) (first_members skin) chars

-- a skin whose parts each read back is read from their object
pub page_back : (skin : PageSkin) (d : Data) → d ≡ page_data skin → AllByRecursion (λ (named : List ℕ × CompoundStyle). ReadsBackStyle named.1) (style_parts skin) → AllByRecursion (λ (named : List ℕ × StyledChar). ReadsBackChar named.1) (char_parts skin)
    → PageReadsBack skin d
page_back skin d is styles chars h old same =
    let first : Members = first_members skin in
    let second : Members = with_parts char_data (char_parts skin) first in
    let ms : Members = with_parts style_data (style_parts skin) second in
    let rules : get_member (codes "rules") ms ≡ Some (number (unsigned skin.headings.rules)) = found_before skin (codes "rules") refl refl in
    let signs : get_member (codes "signs") ms ≡ Some (boolean skin.headings.signs) = found_before skin (codes "signs") refl refl in
    let words : get_member (codes "marks") ms ≡ Some (boolean skin.headings.words) = found_before skin (codes "marks") refl refl in
    let columns : get_member (codes "columns") ms ≡ Some (number (unsigned skin.room.columns)) = found_before skin (codes "columns") refl refl in
    let margin : get_member (codes "margin") ms ≡ Some (number (unsigned skin.room.margin)) = found_before skin (codes "margin") refl refl in
    let cells : get_member (codes "cell_blanks") ms ≡ Some (boolean skin.cell_blanks) = found_before skin (codes "cell_blanks") refl refl in
    let cells_read : choice_under (codes "cell_blanks") (object ms) old.cell_blanks ≡ Ok skin.cell_blanks = ap (λ (found : Option Data). choice_found (codes "cell_blanks") found old.cell_blanks) cells in
    let drawn : AreThere char_data ms (char_parts skin) = all_kept style_data char_data (char_parts skin) (style_parts skin) second refl (all_there char_data (char_parts skin) first refl) in
    let styled : AreThere style_data ms (style_parts skin) = all_there style_data (style_parts skin) second refl in
    ap (page_under old) is
    ∙ ap (λ r. and_next r (λ headings. and_next (room_under (object ms) old.room) (λ room. and_next (choice_under (codes "cell_blanks") (object ms) old.cell_blanks) (λ b. and_next (parts_under (styled_char_of 42) (object ms) (char_parts old) []) (λ cs. and_next (parts_under style_of (object ms) (style_parts old) []) (λ ss. Ok (page_of old headings room b cs ss))))))) (headings_back ms skin.headings old.headings h.rules rules signs words)
    ∙ ap (λ r. and_next r (λ room. and_next (choice_under (codes "cell_blanks") (object ms) old.cell_blanks) (λ b. and_next (parts_under (styled_char_of 42) (object ms) (char_parts old) []) (λ cs. and_next (parts_under style_of (object ms) (style_parts old) []) (λ ss. Ok (page_of old skin.headings room b cs ss)))))) (room_back ms skin.room old.room h.columns h.margin columns margin)
    ∙ ap (λ r. and_next r (λ b. and_next (parts_under (styled_char_of 42) (object ms) (char_parts old) []) (λ cs. and_next (parts_under style_of (object ms) (style_parts old) []) (λ ss. Ok (page_of old skin.headings skin.room b cs ss))))) cells_read
    ∙ ap (λ r. and_next r (λ cs. and_next (parts_under style_of (object ms) (style_parts old) []) (λ ss. Ok (page_of old skin.headings skin.room skin.cell_blanks cs ss)))) (parts_back (styled_char_of 42) char_data ms (char_parts old) (char_parts skin) [] refl (chars_said (char_parts skin) chars h.chars) drawn)
    ∙ ap (λ r. and_next r (λ ss. Ok (page_of old skin.headings skin.room skin.cell_blanks (map (λ (named : List ℕ × StyledChar). named.1) (char_parts skin)) ss))) (parts_back style_of style_data ms (style_parts old) (style_parts skin) [] refl (styles_said (style_parts skin) styles h.styles) styled)
    ∙ ap (λ (text : MadSkin). Ok (record skin { text = text })) same

-- ---- what was written

-- what holds of all parts holds of what they say
pub all_said : {S : Type 0} (P : S → Type 0) (parts : List (Named S)) → All (λ (named : Named S). P named.part) parts → AllByRecursion (λ (named : List ℕ × S). P named.1) (map named_said parts)
all_said P [] all = tt
all_said {S} P (named ∷ parts) all = (All-head (λ (n : Named S). P n.part) named parts all, all_said P parts (All-tail (λ (n : Named S). P n.part) named parts all))
