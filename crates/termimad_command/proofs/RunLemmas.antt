-- What a call does, from what its parts do.
use Rattle.std.proofs.Common.{◌≡◌, ◌⊎◌, ◌∙◌, ℕ, Bool, true, false, List, Option, String, Ok, Err, refl, sym, ap, subst, inl, inr, option_map, map, length, [], ◌∷◌, ◌==◌, true≢false, string_bytes}
use Rattle.std.specs.Borrow.{Bor}
use Rattle.std.specs.declared.alloc.Global.{Global}
use Rattle.clap.specs.Words.{Text}
use Rattle.mad_page_skin.specs.declared.page_skin.PageSkin.{PageSkin}
use Rattle.mad_term.specs.Trace.{Trace, failed, flushed}
use Rattle.termimad_given.specs.Given.{Held}
use Rattle.termimad_options.specs.Calls.{Reading, reading_of}
use Rattle.termimad_options.specs.PlanLines.{plan_bytes}
use Rattle.termimad_options.specs.Plans.{IsPlanOf}
use Rattle.termimad_options.specs.declared.calls.Call.{Call}
use Rattle.termimad_options.specs.declared.plans.Plan.{Plan}
use Rattle.termimad_options.specs.declared.plans.Surroundings.{Surroundings}
use Rattle.termimad_command.specs.Calls.{AreParted, Asks, RefusesCall, asks_plan, is_misplaced}
use Rattle.termimad_command.specs.Refusals.{Says, status_of}
use Rattle.termimad_command.specs.Runs.{Acts, Answers, Fulfils, HasRun, IsNoted, IsUnnoted, Outcome, Performs, ShowsTexts, TellsPlan, look_of, names_of, names_or_input, place_text}
use Rattle.termimad_command.specs.Texts.{AreShown, FailsAmong}
use Rattle.termimad_command.specs.Written.{FlushesOut, Streams, WritesOut, streams}
use Rattle.termimad_command.specs.declared.asking.Request.{Request}
use Rattle.termimad_command.specs.declared.asking.Request.TheVariants.{Call as SomeCall, Answer}
use Rattle.termimad_command.specs.declared.refusals.Refusal.{Refusal}
use Rattle.termimad_command.specs.declared.refusals.Refusal.TheVariants.{Misplaced}
use Rattle.termimad_command.specs.declared.writing.Look.{Look}

-- ---- names

-- names stand for themselves
pub some_named : (files slice : List (Bor Text)) → (length slice == 0) ≡ false → slice ≡ files
    → map (λ (file : Bor Text). file.now) slice ≡ names_or_input (map (λ file. file.now) files)
some_named files slice e s =
    ap (map (λ (file : Bor Text). file.now)) s ∙ all_named files (subst (λ (names : List (Bor Text)). (length names == 0) ≡ false) s e)
  where
    all_named : (files : List (Bor Text)) → (length files == 0) ≡ false → map (λ (file : Bor Text). file.now) files ≡ names_or_input (map (λ file. file.now) files)
    all_named [] e = absurd (true≢false e)
    all_named (file ∷ files) e = refl

-- ---- texts

-- the word for the skin is none
pub none_shown : (holds : Held) (call : Call) (plan : Plan) (old : Streams) (untold told : Trace) (r : Outcome) (refusal : Refusal) → r ≡ Err refusal
    → IsUnnoted plan refusal untold told → ShowsTexts holds call plan old untold r old told
none_shown holds call plan old untold told r refusal e h = inr (inr (record { refusal = refusal; is = e; unnoted = h; same = refl }))

-- one of the texts isn't shown
pub some_shown : (holds : Held) (call : Call) (plan : Plan) (skin : PageSkin) (look : Look) (names : List Text) (old : Streams) (untold told : Trace)
    (input out new : Trace) (r : Outcome) (refusal : Refusal) → r ≡ Err refusal → IsNoted holds call plan skin untold told → look ≡ look_of plan skin → names ≡ names_of call
    → FailsAmong holds look (option_map reading_of call.grammar) names refusal old (streams input out) → (new ≡ flushed out) ⊎ (new ≡ failed out)
    → ShowsTexts holds call plan old untold r (streams input new) told
some_shown holds call plan skin look names old untold told input out new r refusal e s l n h f =
    let with_look = subst (λ (look : Look). FailsAmong holds look (option_map reading_of call.grammar) names refusal old (streams input out)) l h in
    inr (inl (record {
      refusal = refusal;
      is = e;
      skin = skin;
      noted = s;
      out = out;
      texts = subst (λ (names : List Text). FailsAmong holds (look_of plan skin) (option_map reading_of call.grammar) names refusal old (streams input out)) n with_look;
      handed_on = f;
    }))

-- all are
pub all_shown : (holds : Held) (call : Call) (plan : Plan) (skin : PageSkin) (look : Look) (names : List Text) (old : Streams) (untold told : Trace)
    (input out new : Trace) (r : Outcome) → IsNoted holds call plan skin untold told → look ≡ look_of plan skin → names ≡ names_of call
    → AreShown holds look (option_map reading_of call.grammar) names old (streams input out) → FlushesOut out r new
    → ShowsTexts holds call plan old untold r (streams input new) told
all_shown holds call plan skin look names old untold told input out new r s l n h f =
    let with_look = subst (λ (look : Look). AreShown holds look (option_map reading_of call.grammar) names old (streams input out)) l h in
    inl (record {
      skin = skin;
      noted = s;
      out = out;
      texts = subst (λ (names : List Text). AreShown holds (look_of plan skin) (option_map reading_of call.grammar) names old (streams input out)) n with_look;
      flush = f;
    })

-- ---- a plan

-- the line of a plan is written
pub plan_told : (call : Call) (plan : Plan) (place : Option Text) (said : Option Reading) (word line text : Text) (names : List Text) (old new : Trace) (r : Outcome)
    → said ≡ option_map reading_of call.grammar → names ≡ names_of call → word ≡ place_text place → line ≡ plan_bytes plan word said names → text ≡ line
    → WritesOut text old r new → TellsPlan call plan place old r new
plan_told call plan place said word line text names old new r s n p l t h =
    let with_said = ap (λ (said : Option Reading). plan_bytes plan word said names) s in
    let with_names = ap (λ (names : List Text). plan_bytes plan word (option_map reading_of call.grammar) names) n in
    let with_word = ap (λ (word : Text). plan_bytes plan word (option_map reading_of call.grammar) (names_of call)) p in
    inl (subst (λ (text : Text). WritesOut text old r new) (t ∙ l ∙ with_said ∙ with_names ∙ with_word) h)

-- ---- a call

-- the plan is told
pub plan_acted : (holds : Held) (plans : Bool) (call : Call) (plan : Plan) (place : Option Text) (input old new untold : Trace) (r : Outcome) → plans ≡ true
    → TellsPlan call plan place old r new → Acts holds plans call plan place (streams input old) untold r (streams input new) untold
plan_acted holds plans call plan place input old new untold r e h =
    subst (λ (plans : Bool). Acts holds plans call plan place (streams input old) untold r (streams input new) untold) (sym e) (h, refl, refl)

-- the texts are shown
pub texts_acted : (holds : Held) (plans : Bool) (call : Call) (plan : Plan) (place : Option Text) (old new : Streams) (untold told : Trace) (r : Outcome) → plans ≡ false
    → ShowsTexts holds call plan old untold r new told → Acts holds plans call plan place old untold r new told
texts_acted holds plans call plan place old new untold told r e h = subst (λ (plans : Bool). Acts holds plans call plan place old untold r new told) (sym e) h

-- a call is done
pub call_done : (holds : Held) (plans : Bool) (request : Request) (call : Call) (plan : Plan) (place : Option Text) (around : Surroundings) (old new : Streams)
    (untold told : Trace) (r : Outcome) → request ≡ SomeCall call → IsPlanOf call around plan → Acts holds plans call plan place old untold r new told
    → Fulfils holds plans request place around old untold r new told
call_done holds plans request call plan place around old new untold told r is p h =
    subst (λ (request : Request). Fulfils holds plans request place around old untold r new told) (sym is) (record { plan = plan; is_plan = p; acts = h })

-- an answer is told
pub answer_told : (holds : Held) (plans : Bool) (request : Request) (answer : String Global) (text : Text) (place : Option Text) (around : Surroundings)
    (input old new untold : Trace) (r : Outcome) → request ≡ Answer answer → text ≡ string_bytes answer → WritesOut text old r new
    → Fulfils holds plans request place around (streams input old) untold r (streams input new) untold
answer_told holds plans request answer text place around input old new untold r is e h =
    subst (λ (request : Request). Fulfils holds plans request place around (streams input old) untold r (streams input new) untold) (sym is)
    (subst (λ (text : Text). WritesOut text old r new) e h, refl, refl)

-- the words are refused
pub words_refused : (holds : Held) (plans : Bool) (words : List Text) (place : Option Text) (around : Surroundings) (old : Streams) (untold : Trace) (r : Outcome)
    (refusal : Refusal) → r ≡ Err refusal → RefusesCall words refusal → Performs holds plans words place around old untold r old untold
words_refused holds plans words place around old untold r refusal e h =
    inr (record { refusal = refusal; is = e; refused = inr h; same = refl; unsaid = refl })

-- the word that says where a text is shown first is
pub place_refused : (holds : Held) (plans : Bool) (words : List Text) (place : Option Text) (around : Surroundings) (old : Streams) (untold : Trace) (r : Outcome)
    (refuses : Bool) → r ≡ Err Misplaced → refuses ≡ is_misplaced place → refuses ≡ true → Performs holds plans words place around old untold r old untold
place_refused holds plans words place around old untold r refuses e p t =
    inr (record { refusal = Misplaced; is = e; refused = inl (refl, sym p ∙ t); same = refl; unsaid = refl })

-- what they ask for is done
pub words_done : (holds : Held) (plans : Bool) (words : List Text) (place : Option Text) (around : Surroundings) (request : Request) (old new : Streams)
    (untold told : Trace) (r : Outcome) (refuses : Bool) → refuses ≡ is_misplaced place → refuses ≡ false → Asks words request
    → Fulfils holds plans request place around old untold r new told → Performs holds plans words place around old untold r new told
words_done holds plans words place around request old new untold told r refuses p f a h =
    inl (record { placed = sym p ∙ f; request = request; asks = a; done = h })

-- a call that is done has status 0, and nothing is said
pub done_answered : (r : Outcome) (x : Unit {0}) (err : Trace) → r ≡ Ok x → Answers r err 0 err
done_answered r x err e = subst (λ (r : Outcome). Answers r err 0 err) (sym e) (refl, refl)

-- one that is refused has its refusal's, which is said
pub refusal_answered : (r : Outcome) (refusal : Refusal) (old new : Trace) (status : ℕ) → r ≡ Err refusal → status ≡ status_of refusal → Says refusal old new
    → Answers r old status new
refusal_answered r refusal old new status e s h = subst (λ (r : Outcome). Answers r old status new) (sym e) (s, h)

-- a call, from what its words do
pub call_run : (holds : Held) (args said words : List Text) (place : Option Text) (plans : Bool) (lent around : Surroundings) (old new : Streams)
    (old_err told new_err : Trace) (r : Outcome) (status : ℕ) → said ≡ words → lent ≡ around → AreParted args words place → plans ≡ asks_plan args
    → Performs holds plans said place lent old old_err r new told → Answers r told status new_err → HasRun holds args around old old_err status new new_err
call_run holds args said words place plans lent around old new old_err told new_err r status w l p e h a = inl (record {
  words = words;
  place = place;
  parted = p;
  outcome = r;
  told = told;
  did = subst (λ (words : List Text). Performs holds (asks_plan args) words place around old old_err r new told) w
      (subst (λ (plans : Bool). Performs holds plans said place around old old_err r new told) e
      (subst (λ (around : Surroundings). Performs holds plans said place around old old_err r new told) l h));
  answered = a;
})
