-- What the terminal makes of characters, one text after another, and of commands.
use Rattle.std.proofs.Common.{◌≡◌, ℕ, ◌+◌, ◌-◌, ◌*◌, ◌/◌, ◌%◌, ◌^◌, ◌<◌, ◌≤◌, true, false, cond, ltb, leb, eqb, List, [], ◌∷◌, ◌++◌, Option, Some, None, refl, ap, ◌∙◌, sym, subst, arith, append_assoc}
use Rattle.std.specs.Prelude.{option_and_then, option_map, ◌&&◌, decimal}
use Rattle.std.specs.List.{flat_map}
use Rattle.std.proofs.lemmas.Fmt.{decimal_by_steps}
use Rattle.std.proofs.lemmas.Bool.Decides.{nat_tests}
use Rattle.mad_term.specs.Commands.{command_bytes, move_to_bytes}
use Rattle.mad_screen.specs.Grid.{Grid}
use Rattle.mad_screen.specs.Terminal.{Reading, feed, feed_all, Leads, resting, numbers, with_digit, end_number, go_to, is_digit, perform}

at_each : (a b : List ℕ) → ((r : Reading) → feed_all (a ++ b) r ≡ option_and_then (feed_all b) (feed_all a r)) → (o : Option Reading) → option_and_then (feed_all (a ++ b)) o ≡ option_and_then (feed_all b) (option_and_then (feed_all a) o)
at_each a b h None = refl
at_each a b h (Some s) = h s

-- characters are read, and then those after them
pub feed_all-append : (a b : List ℕ) (r : Reading) → feed_all (a ++ b) r ≡ option_and_then (feed_all b) (feed_all a r)
feed_all-append [] b r = refl
feed_all-append (c ∷ a) b r = at_each a b (λ s. feed_all-append a b s) (feed r c)

-- one text after another
pub then_leads : (r s t : Reading) (a b : List ℕ) → Leads r a s → Leads s b t → Leads r (a ++ b) t
unfolding Leads
then_leads r s t a b p q = feed_all-append a b r ∙ ap (option_and_then (feed_all b)) p ∙ q

-- without a character nothing changes
pub nothing_leads : (r : Reading) → Leads r [] r
unfolding Leads
nothing_leads r = refl

-- one character
pub one_leads : (r s : Reading) (c : ℕ) → feed r c ≡ Some s → Leads r (c ∷ []) s
unfolding Leads
one_leads r s c p = ap (option_and_then (feed_all [])) p

-- one character, and then those after it
pub next_leads : (r s t : Reading) (c : ℕ) (cs : List ℕ) → feed r c ≡ Some s → Leads s cs t → Leads r (c ∷ cs) t
next_leads r s t c cs p q = then_leads r s t (c ∷ []) cs (one_leads r s c p) q

-- ---- numbers

-- a digit
digit_feeds : (g : Grid) (ps : List ℕ) (now : Option ℕ) (d n : ℕ) → d < 10 → with_digit now d ≡ Some n → feed (numbers g ps now) (48 + d) ≡ Some (numbers g ps (Some n))
digit_feeds g ps now d n small e =
    let test : is_digit (48 + d) ≡ true = grind (arith, nat_tests) in
    let value : (48 + d) - 48 ≡ d = omega arith in
    ap (λ b. cond b (option_map (λ m. numbers g ps (Some m)) (with_digit now ((48 + d) - 48))) (end_number g ps now (48 + d))) test
    ∙ ap (λ m. option_map (λ k. numbers g ps (Some k)) (with_digit now m)) value ∙ ap (option_map (λ k. numbers g ps (Some k))) e

one_more : (n : ℕ) → 10 ≤ n → n < 2 ^ 32 → with_digit (Some (n / 10)) (n % 10) ≡ Some n
one_more n some small =
    let leads : eqb (n / 10) 0 ≡ false = grind (arith, nat_tests) in
    let value : n / 10 * 10 + n % 10 ≡ n = omega arith in
    let below : ltb (n / 10 * 10 + n % 10) (2 ^ 32) ≡ true = grind (arith, nat_tests) in
    ap (λ b. cond b None (cond (ltb (n / 10 * 10 + n % 10) (2 ^ 32)) (Some (n / 10 * 10 + n % 10)) None)) leads
    ∙ ap (λ b. cond b (Some (n / 10 * 10 + n % 10)) None) below ∙ ap Some value

-- the digits of a number are read as the number
pub decimal_leads : (g : Grid) (ps : List ℕ) (n : ℕ) → n < 2 ^ 32 → Leads (numbers g ps None) (decimal n) (numbers g ps (Some n))
decimal_leads g ps n fits =
    decimal_by_steps (λ n ds. n < 2 ^ 32 → Leads (numbers g ps None) ds (numbers g ps (Some n)))
    (λ n h small. one_leads _ _ _ (digit_feeds g ps None n n h refl))
    (λ n ds some ih small. then_leads _ _ _ _ _ (ih (omega arith)) (one_leads _ _ _ (digit_feeds g ps (Some (n / 10)) (n % 10) n (omega arith) (one_more n some small))))
    n (omega arith) fits

-- ---- commands

-- numbers that the terminal can read
abbrev pub AreReadable : List ℕ → Type 0
AreReadable [] = Unit {0}
AreReadable (n ∷ ns) = (n < 2 ^ 32) × AreReadable ns

-- it ends a sequence
pub record IsLetter (c : ℕ) : Type 0 where
  pub no_digit : is_digit c ≡ false
  pub no_separator : eqb c 59 ≡ false

last_feeds : (g new : Grid) (ps : List ℕ) (n letter : ℕ) → IsLetter letter → perform letter (ps ++ n ∷ []) g ≡ Some new → feed (numbers g ps (Some n)) letter ≡ Some (resting new)
last_feeds g new ps n letter is done =
    ap (λ b. cond b (option_map (λ m. numbers g ps (Some m)) (with_digit (Some n) (letter - 48))) (end_number g ps (Some n) letter)) is.no_digit
    ∙ ap (λ b. cond b (Some (numbers g (ps ++ n ∷ []) None)) (option_map resting (perform letter (ps ++ n ∷ []) g))) is.no_separator
    ∙ ap (option_map resting) done

-- what follows a command's first number
rest_leads : (g new : Grid) (letter : ℕ) → IsLetter letter → (ns ps : List ℕ) (n : ℕ) → AreReadable ns → perform letter (ps ++ n ∷ ns) g ≡ Some new → Leads (numbers g ps (Some n)) (flat_map (λ m. 59 ∷ decimal m) ns ++ letter ∷ []) (resting new)
rest_leads g new letter is [] ps n small done = one_leads _ _ _ (last_feeds g new ps n letter is done)
rest_leads g new letter is (m ∷ ns) ps n small done =
    let others : List ℕ = flat_map (λ k. 59 ∷ decimal k) ns in
    let regrouped : (ps ++ n ∷ []) ++ m ∷ ns ≡ ps ++ n ∷ m ∷ ns = append_assoc ps (n ∷ []) (m ∷ ns) in
    let rest : Leads (numbers g (ps ++ n ∷ []) (Some m)) (others ++ letter ∷ []) (resting new) = rest_leads g new letter is ns (ps ++ n ∷ []) m small.1 (ap (λ l. perform letter l g) regrouped ∙ done) in
    next_leads _ _ _ 59 (decimal m ++ others ++ letter ∷ []) refl
    (subst (λ (l : List ℕ). Leads (numbers g (ps ++ n ∷ []) None) l (resting new)) (sym (append_assoc (decimal m) others (letter ∷ [])))
    (then_leads _ _ _ (decimal m) (others ++ letter ∷ []) (decimal_leads g (ps ++ n ∷ []) m small.0) rest))

-- a command does what its letter and its numbers say
pub command_leads : (g new : Grid) (ns : List ℕ) (letter : ℕ) → AreReadable ns → IsLetter letter → perform letter ns g ≡ Some new → Leads (resting g) (command_bytes ns letter) (resting new)
command_leads g new [] letter small is done =
    next_leads _ _ _ 27 _ refl (next_leads _ _ _ 91 _ refl
    (one_leads _ _ _ (ap (λ b. cond b (option_map (λ m. numbers g [] (Some m)) (with_digit None (letter - 48))) (end_number g [] None letter)) is.no_digit ∙ ap (option_map resting) done)))
command_leads g new (n ∷ ns) letter small is done =
    let others : List ℕ = flat_map (λ k. 59 ∷ decimal k) ns in
    next_leads _ _ _ 27 _ refl (next_leads _ _ _ 91 _ refl
    (subst (λ (l : List ℕ). Leads (numbers g [] None) l (resting new)) (sym (append_assoc (decimal n) others (letter ∷ [])))
    (then_leads _ _ _ (decimal n) (others ++ letter ∷ []) (decimal_leads g [] n small.0) (rest_leads g new letter is ns [] n small.1 done))))

-- `H` ends a sequence
pub letter_move : IsLetter 72
letter_move = record { no_digit = refl; no_separator = refl }

-- so does `m`
pub letter_sgr : IsLetter 109
letter_sgr = record { no_digit = refl; no_separator = refl }

-- so does `J`
pub letter_screen : IsLetter 74
letter_screen = record { no_digit = refl; no_separator = refl }

-- so does `K`
pub letter_row : IsLetter 75
letter_row = record { no_digit = refl; no_separator = refl }

go_to_there : (g : Grid) (x y : ℕ) → x < g.width → y < g.height → go_to ((y + 1) ∷ (x + 1) ∷ []) g ≡ Some (record g { x = x; y = y })
go_to_there g x y in_width in_height =
    let test : (leb 1 (y + 1) && leb (y + 1) g.height && leb 1 (x + 1) && leb (x + 1) g.width) ≡ true = grind (arith, nat_tests) in
    let column : x + 1 - 1 ≡ x = omega arith in
    let row : y + 1 - 1 ≡ y = omega arith in
    ap (λ b. cond b (Some (record g { x = x + 1 - 1; y = y + 1 - 1 })) None) test
    ∙ ap (λ n. Some (record g { x = n; y = y + 1 - 1 })) column ∙ ap (λ n. Some (record g { x = x; y = n })) row

-- the cursor is at the position, and nothing else has changed
pub move_leads : (g : Grid) (x y : ℕ) → x < g.width → y < g.height → x + 1 < 2 ^ 32 → y + 1 < 2 ^ 32 → Leads (resting g) (move_to_bytes x y) (resting (record g { x = x; y = y }))
move_leads g x y in_width in_height small_x small_y =
    command_leads g (record g { x = x; y = y }) ((y + 1) ∷ (x + 1) ∷ []) 72 (small_y, (small_x, tt)) letter_move (go_to_there g x y in_width in_height)
