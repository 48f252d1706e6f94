-- What a call does, and how it ends.
use Rattle.std.specs.Prelude.{◌≡◌, ◌⊎◌, not, ℕ, Bool, false, List, [], ◌∷◌, map, codes, Option, Some, None, option_map, Result, Ok, Err, IsErrOf, string_bytes}
use Rattle.std.specs.Bool.{MatchBool}
use Rattle.std.specs.Str.{bytes_eq}
use Rattle.clap.specs.Words.{Text}
use Rattle.mad_page_skin.specs.declared.page_skin.PageSkin.{PageSkin}
use Rattle.mad_term.specs.Trace.{Trace, failed, flushed}
use Rattle.termimad_given.specs.Given.{Held}
use Rattle.termimad_options.specs.Calls.{reading_of}
use Rattle.termimad_options.specs.PlanLines.{plan_bytes}
use Rattle.termimad_options.specs.Plans.{IsPlanOf}
use Rattle.termimad_options.specs.declared.calls.Call.{Call}
use Rattle.termimad_options.specs.declared.plans.Plan.{Plan}
use Rattle.termimad_options.specs.declared.plans.Surroundings.{Surroundings}
use Rattle.termimad_command.specs.Calls.{AreParted, Asks, RefusesWords, asks_plan, is_misplaced}
use Rattle.termimad_command.specs.Notices.{SaysNotices, notices}
use Rattle.termimad_command.specs.Refusals.{Says, status_of}
use Rattle.termimad_command.specs.Skins.{IsSkinOf, RefusesSkinWord}
use Rattle.termimad_command.specs.Texts.{AreShown, FailsAmong}
use Rattle.termimad_command.specs.Written.{FlushesOut, Streams, WritesOut, streams}
use Rattle.termimad_command.specs.declared.asking.Request.{Request}
use Rattle.termimad_command.specs.declared.asking.Request.TheVariants.{Call as SomeCall, Answer}
use Rattle.termimad_command.specs.declared.refusals.Refusal.{Refusal}
use Rattle.termimad_command.specs.declared.refusals.Refusal.TheVariants.{Memory}
use Rattle.termimad_command.specs.declared.writing.Look.{Look}

-- how a call ends: it is done, or refused
abbrev pub Outcome : Type 0
Outcome = Result (Unit {0}) Refusal

-- ---- texts

-- how texts are written by a plan, in this skin
abbrev pub look_of : Plan → PageSkin → Look
look_of plan skin = record { skin = skin; columns = plan.columns; is_styled = not (bytes_eq plan.skin.now (codes "none")); streams = plan.streams; screen = plan.screen; says_links = plan.says_links }

-- that of the input, where there is none
abbrev pub names_or_input : List Text → List Text
names_or_input [] = codes "-" ∷ []
names_or_input (name ∷ names) = name ∷ names

-- the names of the texts of a call
abbrev pub names_of : Call → List Text
names_of call = names_or_input (map (λ file. file.now) call.files.items)

-- The skin that is planned is this one, and standard error was told what isn't known of it and of the language.
pub record IsNoted (holds : Held) (call : Call) (plan : Plan) (skin : PageSkin) (old new : Trace) : Type 0 where
  pub keys : List Text
  pub is_skin : IsSkinOf holds plan.skin.now (skin, keys)
  pub said : SaysNotices (notices (option_map reading_of call.grammar) keys) old new

-- the word for the skin is none, or there is no memory, and nothing was said
abbrev pub IsUnnoted : Plan → Refusal → Trace → Trace → Type 0
IsUnnoted plan refusal old new = RefusesSkinWord plan.skin.now refusal × (new ≡ old)

-- The texts of a call are shown in the skin that is planned, once it is said what isn't known. Then the output is flushed.
pub record ShowsAll (holds : Held) (call : Call) (plan : Plan) (old : Streams) (untold : Trace) (r : Outcome) (new : Streams) (told : Trace) : Type 0 where
  pub skin : PageSkin
  pub noted : IsNoted holds call plan skin untold told
  pub out : Trace
  pub texts : AreShown holds (look_of plan skin) (option_map reading_of call.grammar) (names_of call) old (streams new.input out)
  pub flush : FlushesOut out r new.out

-- One of them isn't shown. The output is flushed then too, so that the refusal is said behind what is shown.
pub record ShowsSome (holds : Held) (call : Call) (plan : Plan) (old : Streams) (untold : Trace) (r : Outcome) (new : Streams) (told : Trace) : Type 0 where
  pub refusal : Refusal
  pub is : r ≡ Err refusal
  pub skin : PageSkin
  pub noted : IsNoted holds call plan skin untold told
  pub out : Trace
  pub texts : FailsAmong holds (look_of plan skin) (option_map reading_of call.grammar) (names_of call) refusal old (streams new.input out)
  pub handed_on : (new.out ≡ flushed out) ⊎ (new.out ≡ failed out)

-- Nothing is shown, since the word for the skin is none.
pub record ShowsNone (plan : Plan) (old : Streams) (untold : Trace) (r : Outcome) (new : Streams) (told : Trace) : Type 0 where
  pub refusal : Refusal
  pub is : r ≡ Err refusal
  pub unnoted : IsUnnoted plan refusal untold told
  pub same : new ≡ old

abbrev pub ShowsTexts : Held → Call → Plan → Streams → Trace → Outcome → Streams → Trace → Type 0
ShowsTexts holds call plan old untold r new told =
    ShowsAll holds call plan old untold r new told ⊎ (ShowsSome holds call plan old untold r new told ⊎ ShowsNone plan old untold r new told)

-- ---- a plan

-- the word that says where a text is shown first, or no text without one
abbrev pub place_text : Option Text → Text
place_text None = []
place_text (Some word) = word

-- the line that says what a call does
abbrev pub line_of : Call → Plan → Option Text → Text
line_of call plan place = plan_bytes plan (place_text place) (option_map reading_of call.grammar) (names_of call)

-- the plan of a call is written; or there is no memory for that, and nothing is
abbrev pub TellsPlan : Call → Plan → Option Text → Trace → Outcome → Trace → Type 0
TellsPlan call plan place old r new = WritesOut (line_of call plan place) old r new ⊎ (IsErrOf r Memory × (new ≡ old))

-- ---- a call

-- what is done of a call that is planned so: its plan is told, and nothing is read; or its texts are shown
abbrev pub Acts : Held → Bool → Call → Plan → Option Text → Streams → Trace → Outcome → Streams → Trace → Type 0
Acts holds plans call plan place old untold r new told =
    MatchBool plans (TellsPlan call plan place old.out r new.out × (new.input ≡ old.input) × (told ≡ untold)) (ShowsTexts holds call plan old untold r new told)

-- A call is done as is planned where it is made.
pub record DoesCall (holds : Held) (plans : Bool) (call : Call) (place : Option Text) (around : Surroundings) (old : Streams) (untold : Trace) (r : Outcome)
    (new : Streams) (told : Trace) : Type 0 where
  pub plan : Plan
  pub is_plan : IsPlanOf call around plan
  pub acts : Acts holds plans call plan place old untold r new told

-- what is asked for is done: a call, or the text of an answer goes out, and nothing is read
abbrev pub Fulfils : Held → Bool → Request → Option Text → Surroundings → Streams → Trace → Outcome → Streams → Trace → Type 0
Fulfils holds plans (SomeCall call) place around old untold r new told = DoesCall holds plans call place around old untold r new told
Fulfils holds plans (Answer text) place around old untold r new told =
    WritesOut (string_bytes text) old.out r new.out × (new.input ≡ old.input) × (told ≡ untold)

-- The words ask for this, and it is done.
pub record IsDone (holds : Held) (plans : Bool) (words : List Text) (place : Option Text) (around : Surroundings) (old : Streams) (untold : Trace) (r : Outcome)
    (new : Streams) (told : Trace) : Type 0 where
  pub placed : is_misplaced place ≡ false
  pub request : Request
  pub asks : Asks words request
  pub done : Fulfils holds plans request place around old untold r new told

-- The words are refused, and nothing is done.
pub record IsRefused (words : List Text) (place : Option Text) (old : Streams) (untold : Trace) (r : Outcome) (new : Streams) (told : Trace) : Type 0 where
  pub refusal : Refusal
  pub is : r ≡ Err refusal
  pub refused : RefusesWords words place refusal
  pub same : new ≡ old
  pub unsaid : told ≡ untold

-- what words do, of which this one says where a text is shown first, up to the line of a refusal
abbrev pub Performs : Held → Bool → List Text → Option Text → Surroundings → Streams → Trace → Outcome → Streams → Trace → Type 0
Performs holds plans words place around old untold r new told =
    IsDone holds plans words place around old untold r new told ⊎ IsRefused words place old untold r new told

-- its status, and what is said of a refusal
abbrev pub Answers : Outcome → Trace → ℕ → Trace → Type 0
Answers (Ok x) old status new = (status ≡ 0) × (new ≡ old)
Answers (Err refusal) old status new = (status ≡ status_of refusal) × Says refusal old new

-- The words behind the program's name are parted, and do what they ask for; that is the status, and what is said.
pub record HasPerformed (holds : Held) (args : List Text) (around : Surroundings) (old : Streams) (old_err : Trace) (status : ℕ) (new : Streams) (new_err : Trace) : Type 0 where
  pub words : List Text
  pub place : Option Text
  pub parted : AreParted args words place
  pub outcome : Outcome
  pub told : Trace
  pub did : Performs holds (asks_plan args) words place around old old_err outcome new told
  pub answered : Answers outcome told status new_err

-- There is no memory for the words, and nothing is done.
pub record IsForgotten (old : Streams) (old_err : Trace) (status : ℕ) (new : Streams) (new_err : Trace) : Type 0 where
  pub same : new ≡ old
  pub answered : Answers (Err Memory) old_err status new_err

-- a call, whole
abbrev pub HasRun : Held → List Text → Surroundings → Streams → Trace → ℕ → Streams → Trace → Type 0
HasRun holds args around old old_err status new new_err =
    HasPerformed holds args around old old_err status new new_err ⊎ IsForgotten old old_err status new new_err
