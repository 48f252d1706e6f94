-- Parts that are read or put one after another.
use Rattle.std.proofs.Common.{◌≡◌, ℕ, ◌+◌, ◌<◌, ◌≤◌, List, [], ◌∷◌, ◌++◌, length, map, drop, get_or, Ok, ap, sym, ◌∙◌, subst}
use Rattle.std.specs.Prelude.{Err, Result}
use Rattle.std.proofs.lemmas.List.{at_drop_more, at_drop_all}
use Rattle.serde_json.specs.Data.{Data, Members, put}
use Rattle.mad_parse.specs.declared.errors.ParseStyleTokenError.TheVariants as token_error
use Rattle.mad_parse.specs.declared.tokens.StyleToken.{StyleToken}
use Rattle.mad_json.specs.Faults.{SkinFault, TellsSkin, at_key, wrong_kind}
use Rattle.mad_json.specs.Texts.{and_next}
use Rattle.mad_json.specs.declared.errors.SkinError.{SkinError}
use Rattle.mad_json.specs.declared.errors.SkinError.TheVariants.{NotObject, WrongType, Style, TwoNames, Memory}
use Rattle.mad_page_json.specs.Lookups.{IsWrongType, part_under, parts_under}
use Rattle.mad_page_json.specs.Named.{named_said}
use Rattle.mad_page_json.specs.PageWriting.{with_parts}
use Rattle.mad_page_json.specs.declared.named.Named.{Named}

-- two lists are the same where their first elements and the rest are
pub heads : {A : Type 0} (x y : A) (xs ys : List A) → x ≡ y → xs ≡ ys → x ∷ xs ≡ y ∷ ys
heads x y xs ys first rest = cc

-- an error that tells of what is read first tells of the whole
pub tells_next : {A B : Type 0} (e : SkinError) (r : Result A SkinFault) (next : A → Result B SkinFault) → TellsSkin e r → TellsSkin e (and_next r next)
tells_next {A} {B} NotObject r next h = ap (λ (s : Result A SkinFault). and_next s next) h
tells_next {A} {B} (WrongType key) r next h = ap (λ (s : Result A SkinFault). and_next s next) h
tells_next {A} {B} (Style key (token_error.Unrecognized text)) r next h = ap (λ (s : Result A SkinFault). and_next s next) h
tells_next {A} {B} (Style key (token_error.InvalidColor error)) r next h = ap (λ (s : Result A SkinFault). and_next s next) h
tells_next {A} {B} (Style key token_error.Memory) r next h = h
tells_next {A} {B} (TwoNames key) r next h = ap (λ (s : Result A SkinFault). and_next s next) h
tells_next {A} {B} Memory r next h = tt

-- an error of a member of another kind tells so
pub tells_wrong : {A : Type 0} (e : SkinError) (key : List ℕ) (r : Result A SkinFault) → IsWrongType key e → r ≡ Err (at_key key wrong_kind) → TellsSkin e r
tells_wrong (WrongType k) key r wrong is = is ∙ ap (λ (n : List ℕ). Err (at_key n wrong_kind)) (sym wrong)
tells_wrong Memory key r wrong is = tt
tells_wrong NotObject key r wrong is = absurd wrong
tells_wrong (Style k error) key r wrong is = absurd wrong
tells_wrong (TwoNames k) key r wrong is = absurd wrong

-- one part more is read
pub read_next : {A : Type 0} (f : List StyleToken → A) (d : Data) (parts : List (Named A)) (i : ℕ) (x : Named A) (read new : List A) (part : A) → i < length parts → x ≡ get_or parts i x → part_under f d (named_said x) ≡ Ok part → new ≡ read ++ part ∷ []
    → parts_under f d (map named_said (drop (i + 1) parts)) new ≡ parts_under f d (map named_said (drop i parts)) read
read_next {A} f d parts i x read new part inside is said more =
    let next : A → Result (List A) SkinFault = λ y. parts_under f d (map named_said (drop (i + 1) parts)) (read ++ y ∷ []) in
    ap (parts_under f d (map named_said (drop (i + 1) parts))) more
    ∙ ap (λ (r : Result A SkinFault). and_next r next) (sym said)
    ∙ ap (λ (n : Named A). and_next (part_under f d (named_said n)) next) is
    ∙ sym (at_drop_more (λ (ps : List (Named A)). parts_under f d (map named_said ps) read) parts i x inside)

-- a part at fault is that of the whole
pub read_refused : {A : Type 0} (f : List StyleToken → A) (d : Data) (parts : List (Named A)) (i : ℕ) (x : Named A) (read : List A) (e : SkinError) → i < length parts → x ≡ get_or parts i x → TellsSkin e (part_under f d (named_said x))
    → parts_under f d (map named_said (drop i parts)) read ≡ parts_under f d (map named_said parts) [] → TellsSkin e (parts_under f d (map named_said parts) [])
read_refused {A} f d parts i x read e inside is told so_far =
    let next : A → Result (List A) SkinFault = λ y. parts_under f d (map named_said (drop (i + 1) parts)) (read ++ y ∷ []) in
    let here : and_next (part_under f d (named_said x)) next ≡ parts_under f d (map named_said parts) [] =
    ap (λ (n : Named A). and_next (part_under f d (named_said n)) next) is ∙ sym (at_drop_more (λ (ps : List (Named A)). parts_under f d (map named_said ps) read) parts i x inside) ∙ so_far in
    subst (TellsSkin e) here (tells_next e (part_under f d (named_said x)) next told)

-- all parts are read
pub read_all : {A : Type 0} (f : List StyleToken → A) (d : Data) (parts : List (Named A)) (i : ℕ) (read : List A) → length parts ≤ i → parts_under f d (map named_said (drop i parts)) read ≡ parts_under f d (map named_said parts) []
    → parts_under f d (map named_said parts) [] ≡ Ok read
read_all {A} f d parts i read past so_far = sym so_far ∙ at_drop_all (λ (ps : List (Named A)). parts_under f d (map named_said ps) read) parts i past

-- one part more is put
pub put_next : {S : Type 0} (shown : S → Data) (parts : List (Named S)) (i : ℕ) (x : Named S) (old new : Members) → i < length parts → x ≡ get_or parts i x → new ≡ put x.key.now (shown x.part) old
    → with_parts shown (map named_said (drop (i + 1) parts)) new ≡ with_parts shown (map named_said (drop i parts)) old
put_next {S} shown parts i x old new inside is more =
    ap (with_parts shown (map named_said (drop (i + 1) parts))) more
    ∙ ap (λ (n : Named S). with_parts shown (map named_said (drop (i + 1) parts)) (put n.key.now (shown n.part) old)) is
    ∙ sym (at_drop_more (λ (ps : List (Named S)). with_parts shown (map named_said ps) old) parts i x inside)
