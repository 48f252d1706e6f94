-- By how much a part is cut, and what all gain at most.
use Rattle.std.proofs.Common.{◌≡◌, ℕ, ◌+◌, ◌-◌, ◌<◌, ◌≤◌, ◌⊎◌, inl, inr, min, List, ◌∷◌, drop, refl, sym, ap, ◌∙◌, arith, subst}
use Rattle.std.specs.Prelude.{Option, Some, None, if◌then◌else◌, nat_le}
use Rattle.std.proofs.lemmas.Bool.{cases_lt}
use Rattle.std.proofs.lemmas.Bool.Decides.{nat_tests}
use Rattle.mad_fitting.specs.Order.{IsLast, Serves, amount_of, room_for}
use Rattle.mad_fitting.specs.Parts.{due, gained, weight}
use Rattle.mad_fitting.specs.declared.gains.Gain.{Gain}
use Rattle.mad_fitting.specs.declared.turns.Last.{Last}
use Rattle.mad_fitting.proofs.OrderLemmas.{IsNoLater, gained_less, gained_with, is_counted, some_weight}

none_first : (c k : ℕ) → (0 < c) ⊎ ((0 ≡ c) × (0 + 1 ≤ k + 1))
none_first c k = elim (cases_lt 0 c) as (λ _. (0 < c) ⊎ ((0 ≡ c) × (0 + 1 ≤ k + 1))) [ inl some ↦ inl some | inr none ↦ inr (omega (arith, none), omega arith) ]

-- where a part is, beside the last
data Place (c n d m : ℕ) : Type 0 where
  is_first : ((d < c) ⊎ ((d ≡ c) × (m < n))) → Place c n d m
  is_last : c ≡ d → n ≡ m → Place c n d m
  is_later : ((c < d) ⊎ ((c ≡ d) × (n < m))) → Place c n d m

place : (c n d m : ℕ) → Place c n d m
place c n d m = elim (cases_lt c d) as (λ _. Place c n d m) [
  | inl less ↦ is_later (inl less)
  | inr more ↦ elim (cases_lt d c) as (λ _. Place c n d m) [
    | inl wider ↦ is_first (inl wider)
    | inr not_wider ↦
        let equal : c ≡ d = omega (arith, more, not_wider) in
        elim (cases_lt n m) as (λ _. Place c n d m) [
          | inl less ↦ is_later (inr (equal, less))
          | inr late ↦ elim (cases_lt m n) as (λ _. Place c n d m) [
            | inl after ↦ is_first (inr (sym equal, after))
            | inr no_more ↦ is_last equal (omega (arith, late, no_more))
          ]
        ]
  ]
]

amount_before : (l : Last) (n c : ℕ) → (l.columns < c) ⊎ ((l.columns ≡ c) × (l.number < n)) → amount_of (Some l) n c ≡ 18446744073709551615
amount_before l n c (inl wider) = grind (arith, nat_tests)
amount_before l n c (inr (same, behind)) = grind (arith, nat_tests)

amount_same : (l : Last) (n c : ℕ) → c ≡ l.columns → n ≡ l.number → amount_of (Some l) n c ≡ min l.left 18446744073709551615
amount_same l n c same own = grind (arith, nat_tests)

amount_behind : (l : Last) (n c : ℕ) → (c < l.columns) ⊎ ((c ≡ l.columns) × (n < l.number)) → amount_of (Some l) n c ≡ 0
amount_behind l n c (inl less) = grind (arith, nat_tests)
amount_behind l n c (inr (same, early)) = grind (arith, nat_tests)

before_key : (d m c n : ℕ) → ((d < c) ⊎ ((d ≡ c) × (m < n))) → (d < c) ⊎ ((d ≡ c) × (m + 1 + 1 ≤ n + 1))
before_key d m c n (inl wider) = inl wider
before_key d m c n (inr (same, behind)) = inr (same, omega (arith, behind))

behind_key : (c n d m : ℕ) → ((c < d) ⊎ ((c ≡ d) × (n < m))) → IsNoLater d m c (n + 1)
behind_key c n d m (inl less) = inl less
behind_key c n d m (inr (same, early)) = inr (same, omega (arith, early))

min_serves : (d g left : ℕ) → d ≡ left → 0 < left → g < 18446744073709551615 → Serves d g (min left 18446744073709551615)
min_serves d g left is some small = elim (cases_lt left 18446744073709551615) as (λ _. Serves d g (min left 18446744073709551615)) [
  | inl less ↦ record { none = λ z. absurd (omega (arith, z, is, some)); same = λ l. (omega (arith, some), inl (omega (arith, is, less))) }
  | inr more ↦ record { none = λ z. absurd (omega (arith, z, is, some)); same = λ l. (omega (arith, some), inr (omega (arith, is, more, small), omega (arith, more, small))) }
]

room_first : (l : Last) → (if nat_le 0 l.number then l.left + 2 else 0) ≤ l.left + 2
room_first l = grind (arith, nat_tests)

-- what the turns say of a part serves for what is due when its own comes
pub serves : (e n : ℕ) (gs back : List Gain) (g : Gain) (last : Option Last) → IsLast e gs last → drop n gs ≡ g ∷ back → g.gained < 18446744073709551615 → Serves (due e gs n g.columns) g.gained (amount_of last n g.columns)
serves e n gs back g None all is small =
    let sum : gained e g.columns (n + 1) 0 gs + weight e g ≤ gained e 0 0 0 gs = gained_with e 0 0 0 n (n + 1) gs back g is (omega arith) (none_first g.columns n) in
    let some = some_weight e g in
    record { none = λ z. absurd (omega (arith, z, sum, some, all)); same = λ l. (omega arith, inr (omega (arith, sum, some, all), small)) }
serves e n gs back g (Some last) all is small =
    let left = all.0 in
    let enough = all.2 in
    let some = some_weight e g in
    elim (place g.columns n last.columns last.number) as (λ _. Serves (due e gs n g.columns) g.gained (amount_of (Some last) n g.columns)) [
      | is_first first ↦
          let amount : amount_of (Some last) n g.columns ≡ 18446744073709551615 = amount_before last n g.columns first in
          let sum : gained e g.columns (n + 1) 0 gs + weight e g ≤ gained e last.columns (last.number + 1) 0 gs = gained_with e last.columns (last.number + 1) 0 n (n + 1) gs back g is (omega arith) (before_key last.columns last.number g.columns n first) in
          subst (Serves (due e gs n g.columns) g.gained) (sym amount) (record { none = λ z. absurd (omega (arith, z, sum, some, all.0, all.1)); same = λ l. (omega arith, inr (omega (arith, sum, some, all.0, all.1), small)) })
      | is_last c m ↦
          let amount : amount_of (Some last) n g.columns ≡ min last.left 18446744073709551615 = amount_same last n g.columns c m in
          let is_due : due e gs n g.columns ≡ last.left = ap (λ k. e - gained e k (n + 1) 0 gs) c ∙ ap (λ k. e - gained e last.columns (k + 1) 0 gs) m ∙ sym all.0 in
          subst (Serves (due e gs n g.columns) g.gained) (sym amount) (min_serves (due e gs n g.columns) g.gained last.left is_due all.1 small)
      | is_later late ↦
          let amount : amount_of (Some last) n g.columns ≡ 0 = amount_behind last n g.columns late in
          let sum : gained e last.columns last.number 0 gs ≤ gained e g.columns (n + 1) 0 gs = gained_less e last.columns last.number g.columns (n + 1) 0 gs (behind_key g.columns n last.columns last.number late) in
          subst (Serves (due e gs n g.columns) g.gained) (sym amount) (record { none = λ z. refl; same = λ l. absurd (omega (arith, l, sum, all.2)) })
    ]

-- ---- how much all parts gain at most

room_less : (l : Last) (n : ℕ) → (if nat_le (n + 1) l.number then l.left + 2 else 0) ≤ (if nat_le n l.number then l.left + 2 else 0)
room_less l n = grind (arith, nat_tests)

room_last : (l : Last) (n : ℕ) → n ≡ l.number → (if nat_le (n + 1) l.number then l.left + 2 else 0) + l.left + 2 ≤ (if nat_le n l.number then l.left + 2 else 0)
room_last l n same = grind (arith, nat_tests)

-- a part that gains so much leaves room for the others
pub room_more : (e n gone : ℕ) (g : Gain) (gs : List Gain) (last : Option Last) → gone ≤ g.gained → gone ≤ amount_of last n g.columns + 2 → (amount_of last n g.columns ≡ 0 → gone ≡ 0) → gone + room_for e last (n + 1) gs ≤ room_for e last n (g ∷ gs)
room_more e n gone g gs None whole most none = omega (arith, some_weight e g, whole, is_counted e 0 0 n g (elim (cases_lt 0 g.columns) as (λ _. (0 < g.columns) ⊎ ((0 ≡ g.columns) × (0 ≤ n))) [ inl some ↦ inl some | inr not_some ↦ inr (omega (arith, not_some), omega arith) ]))
room_more e n gone g gs (Some last) whole most none =
    let some = some_weight e g in
    let less = room_less last n in
    elim (place g.columns n last.columns last.number) as (λ _. gone + room_for e (Some last) (n + 1) gs ≤ room_for e (Some last) n (g ∷ gs)) [
      | is_first first ↦ omega (arith, some, less, whole, is_counted e last.columns (last.number + 1) n g (elim first as (λ _. (last.columns < g.columns) ⊎ ((last.columns ≡ g.columns) × (last.number + 1 ≤ n))) [ inl wider ↦ inl wider | inr both ↦ inr (both.0, omega (arith, both.1)) ]))
      | is_last c m ↦
          let amount : amount_of (Some last) n g.columns ≡ min last.left 18446744073709551615 = amount_same last n g.columns c m in
          omega (arith, amount, most, room_last last n m)
      | is_later late ↦ omega (arith, less, none (amount_behind last n g.columns late))
    ]

-- all parts together gain at most two columns more than are too many
pub room_all : (e : ℕ) (gs : List Gain) (last : Option Last) → 0 < e → IsLast e gs last → room_for e last 0 gs ≤ e + 2
room_all e gs None some all = omega (arith, all)
room_all e gs (Some last) some all = omega (arith, all.0, all.1, room_first last)
