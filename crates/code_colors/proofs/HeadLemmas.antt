-- A rule whose mark begins with another byte doesn't fit.
use Rattle.std.proofs.Common.{◌≡◌, ℕ, zero, suc, ◌+◌, ◌-◌, ◌<◌, ◌&&◌, ◌||◌, Bool, true, false, cond, eqb, List, [], ◌∷◌, length, get_or, drop, map, filter, refl, sym, ap, ◌∙◌, arith}
use Rattle.std.specs.Prelude.{◌==◌}
use Rattle.std.proofs.lemmas.Bool.Decides.{nat_tests}
use Rattle.std.proofs.lemmas.List.FromFn.{get_or-map-range_with_len}
use Rattle.code_tables.specs.declared.rules.Language.{Language}
use Rattle.code_tables.specs.Rules.{Rule, Mode}
use Rattle.code_tables.specs.Tables.{mode_at, rules_at}
use Rattle.code_tables.specs.Heads.{may_begin_with, may_begin, is_markless, is_head, with_head, heads_of, further, place, places, Heads, beginning, by_head, rules_with}
use Rattle.code_colors.specs.declared.places.Before.{Before}
use Rattle.code_colors.specs.declared.token_at.Taken.{Taken}
use Rattle.code_colors.specs.Bytes.{first}
use Rattle.code_colors.specs.Places.{is_placed}
use Rattle.code_colors.specs.Tokens.{is_marked, rule_len, followed_len, extent_len, taken_of, first_rule, capped, token_at}
use Rattle.code_colors.proofs.FirstLemmas.{other_mark}

-- ---- the rules that a byte has

same_head : (hs : List ℕ) (m b : ℕ) (t : Bool) → eqb m b ≡ t → is_head hs m ≡ true → is_head hs b ≡ false → t ≡ false
same_head hs m b false e is other = refl
same_head hs m b true e is other =
    let eq : m ≡ b = grind (arith, nat_tests, e) in
    sym is ∙ ap (is_head hs) eq ∙ other

some : (n : ℕ) (t : Bool) → (suc n == 0) ≡ t → t ≡ false
some n false e = refl
some n true e =
    let none : suc n ≡ 0 = grind (arith, nat_tests, e) in
    absurd (omega (arith, none))

left : (s t : Bool) → (s || t) ≡ false → s ≡ false
left true t h = h
left false t h = refl

right : (s t : Bool) → (s || t) ≡ false → t ≡ false
right true t h = ap (λ u. cond u t false) h
right false t h = h

none_new : (m b : ℕ) (hs : List ℕ) (t : Bool) → is_head hs m ≡ t → is_head (cond t hs (m ∷ hs)) b ≡ false → eqb m b ≡ false
none_new m b hs true e h = same_head hs m b (eqb m b) refl e h
none_new m b hs false e h = left (eqb m b) (is_head hs b) h

none_old : (m b : ℕ) (hs : List ℕ) (t : Bool) → is_head (cond t hs (m ∷ hs)) b ≡ false → is_head hs b ≡ false
none_old m b hs true h = h
none_old m b hs false h = right (eqb m b) (is_head hs b) h

of_mark : (b : ℕ) (mark hs : List ℕ) → is_head (with_head mark hs) b ≡ false → may_begin_with b mark ≡ (length mark == 0)
of_mark b [] hs h = refl
of_mark b (m ∷ ms) hs h = none_new m b hs (is_head hs m) refl h ∙ sym (some (length ms) (length (m ∷ ms) == 0) refl)

of_rest : (b : ℕ) (mark hs : List ℕ) → is_head (with_head mark hs) b ≡ false → is_head hs b ≡ false
of_rest b [] hs h = h
of_rest b (m ∷ ms) hs h = none_old m b hs (is_head hs m) h

none_marked : (b : ℕ) (rules : List Rule) → is_head (heads_of rules) b ≡ false → filter (may_begin b) rules ≡ filter is_markless rules
none_marked b [] h = refl
none_marked b (r ∷ rs) h =
    ap (λ t. cond t (r ∷ filter (may_begin b) rs) (filter (may_begin b) rs)) (of_mark b r.mark (heads_of rs) h)
    ∙ ap (λ fs. cond (is_markless r) (r ∷ fs) fs) (none_marked b rs (of_rest b r.mark (heads_of rs) h))

moved : (rs : List (List Rule)) (other new : List Rule) (n : ℕ) → get_or (other ∷ new ∷ rs) (further n) [] ≡ get_or (other ∷ rs) n []
moved rs other new zero = refl
moved rs other new (suc n) = refl

placed_step : (rules other : List Rule) (b h : ℕ) (hs : List ℕ) (t : Bool) → eqb h b ≡ t
    → get_or (other ∷ map (beginning rules) hs) (place hs b) [] ≡ cond (is_head hs b) (beginning rules b) other
    → get_or (other ∷ beginning rules h ∷ map (beginning rules) hs) (cond t 1 (further (place hs b))) [] ≡ cond (t || is_head hs b) (beginning rules b) other
placed_step rules other b h hs true e so =
    let eq : h ≡ b = grind (arith, nat_tests, e) in
    ap (beginning rules) eq
placed_step rules other b h hs false e so = moved (map (beginning rules) hs) other (beginning rules h) (place hs b) ∙ so

placed : (rules other : List Rule) (b : ℕ) (hs : List ℕ) → get_or (other ∷ map (beginning rules) hs) (place hs b) [] ≡ cond (is_head hs b) (beginning rules b) other
placed rules other b [] = refl
placed rules other b (h ∷ hs) = placed_step rules other b h hs (eqb h b) refl (placed rules other b hs)

whole : (b : ℕ) (rules : List Rule) (t : Bool) → is_head (heads_of rules) b ≡ t → cond t (beginning rules b) (filter is_markless rules) ≡ beginning rules b
whole b rules true e = refl
whole b rules false e = sym (none_marked b rules e)

place_read : (b : ℕ) (hs : List ℕ) → b < 256 → get_or (places hs) b 0 - 48 ≡ place hs b
place_read b hs small =
    let read : get_or (places hs) b 0 ≡ 48 + place hs b = get_or-map-range_with_len (λ n. 48 + place hs n) 0 256 b b 0 small (omega arith) in
    omega (arith, read)

looked_up : (b : ℕ) (rules : List Rule) → b < 256 → rules_with (by_head rules) b ≡ beginning rules b
unfolding by_head
looked_up b rules small =
    ap (λ n. get_or (by_head rules).rules n []) (place_read b (heads_of rules) small)
    ∙ placed rules (filter is_markless rules) b (heads_of rules) ∙ whole b rules (is_head (heads_of rules) b) refl

-- ---- the first of them that fits

no_mark : (mark rest : List ℕ) → may_begin_with (first rest) mark ≡ false → is_marked mark rest ≡ false
no_mark [] rest h = ap (λ t. cond t (is_marked [] rest) false) h
no_mark (m ∷ ms) rest h = other_mark m ms rest h

no_len : (mode : Mode) (before : Before) (rest : List ℕ) (r : Rule) → may_begin (first rest) r ≡ false → rule_len mode before rest r ≡ 0
no_len mode before rest r h =
    ap (λ t. cond (t && is_placed r.place before) (followed_len r.followed (extent_len mode r r.extent (length r.mark) (drop (length r.mark) rest)) rest) 0) (no_mark r.mark rest h)

step : (mode : Mode) (before : Before) (rest : List ℕ) (r : Rule) (fs rs : List Rule) (t : Bool) → may_begin (first rest) r ≡ t → first_rule mode before rest fs ≡ first_rule mode before rest rs
    → first_rule mode before rest (cond t (r ∷ fs) fs) ≡ first_rule mode before rest (r ∷ rs)
unfolding first_rule
step mode before rest r fs rs true e h = ap (λ t. cond (eqb (rule_len mode before rest r) 0) t (taken_of (rule_len mode before rest r - 1) r.class r.turn)) h
step mode before rest r fs rs false e h = h ∙ sym (ap (λ n. cond (eqb n 0) (first_rule mode before rest rs) (taken_of (n - 1) r.class r.turn)) (no_len mode before rest r e))

first_filtered : (mode : Mode) (before : Before) (rest : List ℕ) (rules : List Rule) → first_rule mode before rest (filter (may_begin (first rest)) rules) ≡ first_rule mode before rest rules
first_filtered mode before rest [] = refl
first_filtered mode before rest (r ∷ rs) =
    step mode before rest r (filter (may_begin (first rest)) rs) rs (may_begin (first rest) r) refl (first_filtered mode before rest rs)

-- of the rules that are looked up by the first byte the first that fits is the first of all that fits
pub first_of_head : (mode : Mode) (before : Before) (rest : List ℕ) (rules : List Rule) (heads : Heads) → heads ≡ by_head rules → first rest < 256
    → first_rule mode before rest (rules_with heads (first rest)) ≡ first_rule mode before rest rules
first_of_head mode before rest rules heads is small =
    ap (λ (h : Heads). first_rule mode before rest (rules_with h (first rest))) is
    ∙ ap (first_rule mode before rest) (looked_up (first rest) rules small) ∙ first_filtered mode before rest rules

-- the token that begins with so few bytes behind its first is that of the first of all rules that fits
pub token_is : (language : Language) (n : ℕ) (mode : Mode) (heads : Heads) (before : Before) (rest : List ℕ) (b : ℕ) (rules : List Rule) (few : ℕ) (t : Taken)
    → mode ≡ mode_at language n → heads ≡ by_head (rules_at language n) → b ≡ first rest → b < 256
    → rules ≡ rules_with heads b → t ≡ first_rule mode before rest rules → few ≡ length rest - 1 → capped few t ≡ token_at language n before rest
unfolding token_at
token_is language n mode heads before rest b rules few t mode_is heads_is b_is small rules_is t_is few_is =
    let first_small : first rest < 256 = omega (arith, small, b_is) in
    ap (λ m. capped m t) few_is
    ∙ ap (capped (length rest - 1))
    (t_is ∙ ap (first_rule mode before rest) rules_is ∙ ap (λ k. first_rule mode before rest (rules_with heads k)) b_is
    ∙ first_of_head mode before rest (rules_at language n) heads heads_is first_small ∙ ap (λ m. first_rule m before rest (rules_at language n)) mode_is)
