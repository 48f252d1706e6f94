-- Bytes that are read one after the other, and what is heard of them.
use Rattle.std.proofs.Common.{◌≡◌, ℕ, ◌+◌, ◌<◌, ◌≤◌, ◌==◌, ◌||◌, ◌&&◌, nat_lt, Bool, true, false, List, [], ◌∷◌, ◌++◌, take, drop, length, get_or, Option, Some, None, option_map, refl, ap, sym, ◌∙◌, subst, append_assoc, if◌then◌else◌}
use Rattle.std.proofs.lemmas.List.{append-nil, take_more, take_all, take-append-drop}
use Rattle.mad_term.specs.declared.events.Event.{Event}
use Rattle.mad_term.specs.declared.events.Event.TheVariants.{Key}
use Rattle.mad_keys.specs.Readings.{lone_escape}
use Rattle.mad_keys.specs.Keys.{escape_key}
use Rattle.mad_input.specs.Hearing.{ByteHears, BytesHear, PauseHears, all_heard}
use Rattle.mad_input.specs.declared.input.Heard.{Heard}
use Rattle.mad_input.specs.declared.input.Heard.TheVariants.{Typed}
use Rattle.mad_input.specs.declared.input.Mode.{Mode}
use Rattle.mad_input.specs.declared.input.Mode.TheVariants.{Types, Pastes, Drops, Escapes}
use Rattle.mad_input.specs.declared.input.TerminalInput.{TerminalInput}
use Rattle.mad_page.specs.PageKeys.{after_key}
use Rattle.mad_page.specs.Pages.{row_number}
use Rattle.mad_page.specs.declared.page.Page.{Page}
use Rattle.mad_pager.proofs.PagerSteps.{turn_after}
use Rattle.mad_pager.specs.Following.{has_numbers, is_numbered}
use Rattle.mad_pager.specs.Pagers.{Leaf, View, answer_or, has_choice, key_answer, key_over, link_answer, turn_answered, turn_at, turn_over}
use Rattle.mad_pager.specs.Sessions.{State, asks_size, end_of, turn_asked, turn_below}
use Rattle.mad_pager.specs.declared.session.End.{End}
use Rattle.mad_pager.specs.declared.session.Turn.{Turn}
use Rattle.mad_pager.specs.declared.session.Turn.TheVariants.{Goes, AsksSize, Opens, Ends}
use Rattle.termimad_page_run.specs.Blocks.{IsHeardStep, IsToldStep, IsToldDone, turn_heard, turn_told, IsSession, AreHeardDone, IsEndedIn}

-- ---- how a session goes on

-- a session that has this end ends so
pub ends_is : (turn : Turn) (end : End) → end_of turn ≡ Some end → turn ≡ Ends end
ends_is (Ends e) end h = let same : e ≡ end = cc in ap Ends same
ends_is Goes end h = absurd (cc)
ends_is AsksSize end h = absurd (cc)
ends_is (Opens overlay) end h = absurd (cc)

-- what doesn't end has no end
pub none_some : (end : End) → None ≡ Some end → ⊥
none_some end h = absurd (cc)

-- ---- bytes

-- a byte more is read
pub heard_more : (s : TerminalInput) (bytes : List ℕ) (b : ℕ) (heard : List Heard) (left : TerminalInput) (one : Option Heard) (new : TerminalInput)
    → BytesHear s bytes heard left → ByteHears left.mode left b one new → BytesHear s (bytes ++ b ∷ []) (heard ++ all_heard one) new
heard_more s [] b heard left one new (none, same) hears = (
  one,
  new,
  [],
  subst (λ (l : TerminalInput). ByteHears l.mode l b one new) same hears,
  (refl, refl),
  ap (λ (l : List Heard). l ++ all_heard one) none ∙ sym (append-nil (all_heard one)),
)
heard_more s (x ∷ bytes) b heard left one new (first, mid, more, step, rest, are) hears = (
  first,
  mid,
  more ++ all_heard one,
  step,
  heard_more mid bytes b more left one new rest hears,
  ap (λ (l : List Heard). l ++ all_heard one) are ∙ append_assoc (all_heard first) more (all_heard one),
)

or_false : (b : Bool) → (b || false) ≡ b
or_false true = refl
or_false false = refl

or_assoc : (a b c : Bool) → ((a || b) || c) ≡ (a || (b || c))
or_assoc true b c = refl
or_assoc false b c = refl

-- one thing that is heard
one_done : (s : View) (one : Heard) (new : View) (asks : Bool)
    → IsHeardStep one s new → end_of (turn_heard one s) ≡ None → asks ≡ false → IsSession s (one ∷ []) (asks || asks_size (turn_heard one s)) new
one_done s one new asks step goes none =
    (new, false, step, goes, ap (λ (b : Bool). b || asks_size (turn_heard one s)) none ∙ sym (or_false (asks_size (turn_heard one s))), (refl, refl))

one_more_done : (s : View) (heard : List Heard) (asks : Bool) (mid : View) (one : Heard) (new : View)
    → IsSession s heard asks mid → IsHeardStep one mid new → end_of (turn_heard one mid) ≡ None
    → IsSession s (heard ++ one ∷ []) (asks || asks_size (turn_heard one mid)) new
one_more_done s [] asks mid one new (none, same) step goes =
    subst (λ (m : View). IsHeardStep one m new → end_of (turn_heard one m) ≡ None → IsSession s (one ∷ []) (asks || asks_size (turn_heard one m)) new) (sym same)
    (λ first on. one_done s one new asks first on none) step goes
one_more_done s (e ∷ heard) asks mid one new (next, others, first, goes_on, is, rest) step goes =
    let x = asks_size (turn_heard one mid) in (
      next,
      others || x,
      first,
      goes_on,
      ap (λ (b : Bool). b || x) is ∙ or_assoc (asks_size (turn_heard e s)) others x,
      one_more_done next heard others mid one new rest step goes,
    )

-- what was heard is done too
told_done : (s : View) (heard : List Heard) (asks : Bool) (mid : View) (told : Option Heard) (new : View)
    → IsSession s heard asks mid → IsToldStep told mid new → end_of (turn_told told mid) ≡ None
    → IsSession s (heard ++ all_heard told) (asks || asks_size (turn_told told mid)) new
told_done s heard asks mid None new h same goes =
    subst (λ (b : Bool). IsSession s (heard ++ []) b new) (sym (or_false asks))
    (subst (λ (l : List Heard). IsSession s l asks new) (sym (append-nil heard)) (subst (λ (n : View). IsSession s heard asks n) (sym same) h))
told_done s heard asks mid (Some one) new h step goes = one_more_done s heard asks mid one new h step goes

-- one thing more, if one was heard, is done, and may ask for the size
pub session_more : (s : View) (heard : List Heard) (asks : Bool) (mid : View) (told : Option Heard) (new : View) (asked : Bool)
    → IsSession s heard asks mid → IsToldStep told mid new → end_of (turn_told told mid) ≡ None → asked ≡ asks_size (turn_told told mid)
    → IsSession s (heard ++ all_heard told) (asks || asked) new
session_more s heard asks mid told new asked h step goes is =
    subst (λ (b : Bool). IsSession s (heard ++ all_heard told) (asks || b) new) (sym is) (told_done s heard asks mid told new h step goes)

-- what a pause tells is done too, and asks for nothing
pause_more : (s : View) (heard : List Heard) (asks : Bool) (mid : View) (told : Option Heard) (new : View)
    → IsSession s heard asks mid → IsToldDone told mid new → IsSession s (heard ++ all_heard told) asks new
pause_more s heard asks mid told new h (step, goes) =
    let on : end_of (turn_told told mid) ≡ None = ap end_of goes in
    subst (λ (b : Bool). IsSession s (heard ++ all_heard told) b new) (ap (λ (t : Turn). asks || asks_size t) goes ∙ or_false asks)
    (told_done s heard asks mid told new h step on)

-- Esc never ends a session, nor does it after a colon
colon_goes : (colon : Bool) (p : Page) → turn_asked (turn_after colon escape_key p).page (turn_after colon escape_key p).ask ≡ Goes
colon_goes true p = refl
colon_goes false p = refl

key_goes : (typing : Bool) (p : Page) → (if typing then Goes else turn_asked (after_key escape_key p).page (after_key escape_key p).ask) ≡ Goes
key_goes true p = refl
key_goes false p = colon_goes p.has_colon p

-- of two things the second, where a test fails
if_not : {A : Type 0} (c : Bool) (a b : A) → c ≡ false → (if c then a else b) ≡ b
if_not true a b h = let e : true ≡ false = h in absurd (cc)
if_not false a b h = refl

-- what holds of both holds of the one that a test takes
by_if : {A : Type 0} (P : A → Type 0) (c : Bool) (a b : A) → P a → P b → P (if c then a else b)
by_if P true a b x y = x
by_if P false a b x y = y

and_false : (b : Bool) → (b && false) ≡ false
and_false true = refl
and_false false = refl

-- Esc says nothing of links
says_nothing : (over : Leaf) → link_answer escape_key over ≡ None
says_nothing over =
    let some : Bool = nat_lt 0 over.state.page.count in
    if_not (has_numbers over.content && (some && false)) _ _ (ap (λ (b : Bool). has_numbers over.content && b) (and_false some) ∙ and_false (has_numbers over.content))
    ∙ if_not (is_numbered over.content && false) _ _ (and_false (is_numbered over.content))

closes_it : (choice : Bool) (over text : Leaf) → turn_answered (key_over escape_key choice) (Key escape_key) over text ≡ Goes
closes_it true over text = refl
closes_it false over text = refl

-- nor does it end a session on a page over the text
over_goes : (over text : Leaf) → turn_over (Key escape_key) over text ≡ Goes
over_goes over text =
    by_if (λ answer. turn_answered answer (Key escape_key) over text ≡ Goes) (over.state.is_typing || over.state.page.has_colon) _ (key_answer escape_key over)
    (ap (turn_below (row_number text.state.page)) (key_goes over.state.is_typing over.state.page))
    (ap (λ o. turn_answered (answer_or o (key_over escape_key (has_choice over.content))) (Key escape_key) over text) (says_nothing over) ∙ closes_it (has_choice over.content) over text)

escape_goes : (over : Option Leaf) (text : Leaf) → turn_at over (Key escape_key) text ≡ Goes
escape_goes None text = key_goes text.state.is_typing text.state.page
escape_goes (Some over) text = over_goes over text

-- what a lone ESC tells doesn't end a session
lone_goes : (w : List ℕ) (v : View) → turn_told (option_map Typed (lone_escape w)) v ≡ Goes
lone_goes [] v = refl
lone_goes (a ∷ []) v = elim (a == 27) as (λ b. turn_told (option_map Typed (if b then Some (Key escape_key) else None)) v ≡ Goes) [ true ↦ escape_goes v.over v.text | false ↦ refl ]
lone_goes (a ∷ b ∷ w) v = refl

-- nothing goes on just so
nothing_goes : (told : Option Heard) (v : View) → told ≡ None → turn_told told v ≡ Goes
nothing_goes told v is = ap (λ (o : Option Heard). turn_told o v) is

-- what a pause tells doesn't end a session
pub pause_goes : (mode : Mode) (s : TerminalInput) (told : Option Heard) (new : TerminalInput) (v : View) → PauseHears mode s told new → turn_told told v ≡ Goes
pause_goes Types s told new v (event, left, gives, is, e) =
    ap (λ (o : Option Heard). turn_told o v) (is ∙ ap (λ (o : Option Event). option_map Typed o) gives.0) ∙ lone_goes s.keys v
pause_goes Pastes s told new v (is, e) = nothing_goes told v is
pause_goes Drops s told new v (is, e) = nothing_goes told v is
pause_goes Escapes s told new v (is, e) = nothing_goes told v is

-- what is heard ends the session
pub ended : (s : TerminalInput) (block : List ℕ) (i : ℕ) (v : View) (heard : List Heard) (asks : Bool) (mid : View) (told : Option Heard) (left : TerminalInput)
    (end : End) → BytesHear s (take i block) (heard ++ all_heard told) left → IsSession v heard asks mid → turn_told told mid ≡ Ends end → IsEndedIn s block v end
ended s block i v heard asks mid None left end read done ends = absurd (cc)
ended s block i v heard asks mid (Some one) left end read done ends = record {
  front = take i block;
  rest = drop i block;
  whole = take-append-drop i block;
  heard = heard;
  last = one;
  left = left;
  told = read;
  asks = asks;
  before = mid;
  session = done;
  ends = ends;
}

-- the block's byte of this index
pub byte_read : (s : TerminalInput) (block : List ℕ) (i : ℕ) (heard : List Heard) (left : TerminalInput) (told : Option Heard) (new : TerminalInput) → i < length block → BytesHear s (take i block) heard left → ByteHears left.mode left (get_or block i 0) told new
    → BytesHear s (take (i + 1) block) (heard ++ all_heard told) new
byte_read s block i heard left told new inside read hears =
    subst (λ (l : List ℕ). BytesHear s l (heard ++ all_heard told) new) (sym (take_more block i 0 inside)) (heard_more s (take i block) (get_or block i 0) heard left told new read hears)

-- all of a block is read, and no pause comes
pub block_read : (s : TerminalInput) (block : List ℕ) (i : ℕ) (v : View) (heard : List Heard) (left : TerminalInput) (asks : Bool) (new : View) (pauses answer : Bool)
    → length block ≤ i → pauses ≡ false → BytesHear s (take i block) heard left → IsSession v heard asks new → answer ≡ asks → AreHeardDone s block pauses v left answer new
block_read s block i v heard left asks new pauses answer past unpaused read done same = record {
  heard = heard;
  told = record {
    before = left;
    own = heard;
    told = subst (λ (l : List ℕ). BytesHear s l heard left) (take_all i block past) read;
    last = None;
    pause = λ is. let e : true ≡ false = sym is ∙ unpaused in absurd (cc);
    none = λ is. (refl, refl);
    all = sym (append-nil heard);
  };
  session = subst (λ (b : Bool). IsSession v heard b new) (sym same) done;
}

-- or one comes
pub block_paused : (s : TerminalInput) (block : List ℕ) (i : ℕ) (v : View) (heard : List Heard) (left : TerminalInput) (asks : Bool) (mid : View) (pauses answer : Bool) (told : Option Heard) (after : TerminalInput) (new : View)
    → length block ≤ i → pauses ≡ true → BytesHear s (take i block) heard left → IsSession v heard asks mid → answer ≡ asks → PauseHears left.mode left told after → IsToldDone told mid new
    → AreHeardDone s block pauses v after answer new
block_paused s block i v heard left asks mid pauses answer told after new past paused read done same hears step = record {
  heard = heard ++ all_heard told;
  told = record {
    before = left;
    own = heard;
    told = subst (λ (l : List ℕ). BytesHear s l heard left) (take_all i block past) read;
    last = told;
    pause = λ is. hears;
    none = λ is. let e : true ≡ false = sym paused ∙ is in absurd (cc);
    all = refl;
  };
  session = subst (λ (b : Bool). IsSession v (heard ++ all_heard told) b new) (sym same) (pause_more v heard asks mid told new done step);
}
