-- What keys and the mouse do on a page.
use Rattle.std.specs.Prelude.{◌≡◌, ℕ, ◌+◌, ◌-◌, ◌*◌, ◌/◌, ◌^◌, ◌==◌, ◌||◌, ◌&&◌, nat_le, min, max, Bool, true, false, if◌then◌else◌}
use Rattle.mad_term.specs.declared.keys.KeyCode.{KeyCode}
use Rattle.mad_term.specs.declared.keys.KeyCode.TheVariants.{Char, Enter, Esc, F}
use Rattle.mad_term.specs.declared.keys.KeyEvent.{KeyEvent}
use Rattle.mad_term.specs.declared.mouse.MouseButton.{MouseButton}
use Rattle.mad_term.specs.declared.mouse.MouseButton.TheVariants.{Left}
use Rattle.mad_term.specs.declared.mouse.MouseEvent.{MouseEvent}
use Rattle.mad_term.specs.declared.mouse.MouseEventKind.{MouseEventKind}
use Rattle.mad_page.specs.Pages.{above, at_bar, at_end, at_percent, at_row, below, body_rows, is_on_bar}
use Rattle.mad_page.specs.declared.commands.Ask.{Ask}
use Rattle.mad_page.specs.declared.commands.Ask.TheVariants.{Nothing, Search, SearchBack, Next, Previous, NextHeader, PreviousHeader, Forget, Help, Links, Contents, NextFile, PreviousFile, Reload, Edit, Size, Quit}
use Rattle.mad_page.specs.declared.commands.Command.{Command}
use Rattle.mad_page.specs.declared.commands.Command.TheVariants.{Moves, Counts, Colon, Tells, Asks}
use Rattle.mad_page.specs.declared.commands.Motion.{Motion}
use Rattle.mad_page.specs.declared.commands.Motion.TheVariants as Motion
use Rattle.mad_page.specs.declared.page.Files.{Files}
use Rattle.mad_page.specs.declared.page.Page.{Page}

-- ---- which key says what

-- what a character asks for that doesn't scroll: `/`, `?`, `n`, `N`, `}` `]`, `{` `[`, `h`, `l`, `t`, `R`, `v`, `q`
abbrev pub char_ask : ℕ → Ask
char_ask c =
    if c == 47 then Search
    else if c == 63 then SearchBack
    else if c == 110 then Next
    else if c == 78 then Previous
    else if c == 125 || c == 93 then NextHeader
    else if c == 123 || c == 91 then PreviousHeader
    else if c == 104 then Help
    else if c == 108 then Links
    else if c == 116 then Contents
    else if c == 82 then Reload
    else if c == 118 then Edit
    else if c == 113 then Quit
    else Nothing

-- what a character says, by its code: `j` `e`, `k` `y`, space, `b`, `d`, `u`, `g`, `G`, `%`, digits, `:`, `=`
abbrev pub char_command : ℕ → Command
char_command c =
    if c == 106 || c == 101 then Moves Motion.RowDown
    else if c == 107 || c == 121 then Moves Motion.RowUp
    else if c == 32 then Moves Motion.PageDown
    else if c == 98 then Moves Motion.PageUp
    else if c == 100 then Moves Motion.HalfDown
    else if c == 117 then Moves Motion.HalfUp
    else if c == 103 then Moves Motion.Start
    else if c == 71 then Moves Motion.End
    else if c == 37 then Moves Motion.Percent
    else if nat_le 48 c && nat_le c 57 then Counts (c - 48)
    else if c == 58 then Colon
    else if c == 61 then Tells
    else Asks (char_ask c)

-- what a key without modifiers says
abbrev pub plain_command : KeyCode → Command
plain_command KeyCode.Down = Moves Motion.RowDown
plain_command Enter = Moves Motion.RowDown
plain_command KeyCode.Up = Moves Motion.RowUp
plain_command KeyCode.PageDown = Moves Motion.PageDown
plain_command KeyCode.PageUp = Moves Motion.PageUp
plain_command KeyCode.Home = Moves Motion.Start
plain_command KeyCode.End = Moves Motion.End
plain_command Esc = Asks Forget
plain_command (F number) = if number == 1 then Asks Help else Asks Nothing
plain_command (Char c) = char_command c
plain_command code = Asks Nothing

-- what a character says with Control: `e` `n`, `y` `p`, `f`, `b`, `d`, `u`; `l` asks for the size, `c` for the end
abbrev pub control_command : ℕ → Command
control_command c =
    if c == 101 || c == 110 then Moves Motion.RowDown
    else if c == 121 || c == 112 then Moves Motion.RowUp
    else if c == 102 then Moves Motion.PageDown
    else if c == 98 then Moves Motion.PageUp
    else if c == 100 then Moves Motion.HalfDown
    else if c == 117 then Moves Motion.HalfUp
    else if c == 108 then Asks Size
    else if c == 99 then Asks Quit
    else Asks Nothing

-- what a key says with Control alone
abbrev pub controlled_command : KeyCode → Command
controlled_command (Char c) = control_command c
controlled_command code = Asks Nothing

-- what a key says with Alt alone: `u`
abbrev pub alt_command : KeyCode → Command
alt_command (Char c) = if c == 117 then Asks Forget else Asks Nothing
alt_command code = Asks Nothing

-- what a key says: without modifiers, or with Control or Alt alone; with others nothing
abbrev pub command_of : KeyEvent → Command
command_of key =
    if key.modifiers.0 == 0 then plain_command key.code
    else if key.modifiers.0 == 2 then controlled_command key.code
    else if key.modifiers.0 == 4 then alt_command key.code
    else Asks Nothing

-- a key that ends the session in any case: Control with `c`
abbrev pub is_break : KeyEvent → Bool
is_break key = key.modifiers.0 == 2 && is_c key.code
  where
    is_c : KeyCode → Bool
    is_c (Char c) = c == 99
    is_c code = false

-- what a character asks for after a colon: `n` the next file and `p` the one before, where there is one, and `q` the end
abbrev pub named_file : Files → ℕ → Ask
named_file files c =
    if (c == 110) && files.has_next then NextFile
    else if (c == 112) && files.has_previous then PreviousFile
    else if c == 113 then Quit
    else Nothing

-- what a key asks for there: that, without modifiers, and Control with `c` the end
abbrev pub file_ask : Files → KeyEvent → Ask
file_ask files key = if is_break key then Quit else if key.modifiers.0 == 0 then named_by key.code else Nothing
  where
    named_by : KeyCode → Ask
    named_by (Char c) = named_file files c
    named_by code = Nothing

-- ---- what is done

-- a page after a key, and what the key asks for
pub record Turn : Type 0 where
  pub page : Page
  pub ask : Ask

-- a call leaves the page so, and answers that
abbrev pub HasTurned : Turn → Page → Ask → Type 0
HasTurned turn page ask = (page ≡ turn.page) × (ask ≡ turn.ask)

-- how far a page goes by rows: as many as were typed, or one
abbrev pub times : Page → ℕ
times p = max 1 p.count

-- a page after a motion: to the row that was typed, counted from 1, or else to the start or the end; or to the per cent that was typed
abbrev pub moved : Motion → Page → Page
moved Motion.RowDown p = below p (times p)
moved Motion.RowUp p = above p (times p)
moved Motion.PageDown p = below p (body_rows p)
moved Motion.PageUp p = above p (body_rows p)
moved Motion.HalfDown p = below p (body_rows p / 2)
moved Motion.HalfUp p = above p (body_rows p / 2)
moved Motion.Start p = at_row p (p.count - 1)
moved Motion.Percent p = at_percent p p.count
moved Motion.End p = if p.count == 0 then at_end p else at_row p (p.count - 1)

-- a number that was typed, and one more digit; it stays at the largest number of 64 bits
abbrev pub with_digit : Page → ℕ → Page
with_digit p digit = record p { count = min (10 * p.count + digit) (2 ^ 64 - 1) }

-- no number was typed
abbrev pub uncounted : Page → Page
uncounted p = record p { count = 0 }

-- what a command does. A number is for the next key alone.
abbrev pub after_command : Command → Page → Turn
after_command (Moves motion) p = record { page = uncounted (moved motion p); ask = Nothing }
after_command (Counts digit) p = record { page = with_digit p digit; ask = Nothing }
after_command Colon p = record { page = record (uncounted p) { has_colon = true }; ask = Nothing }
after_command Tells p = record { page = record (uncounted p) { tells = true }; ask = Nothing }
after_command (Asks ask) p = record { page = uncounted p; ask = ask }

-- what a key does: after a colon it names a file. The colon too is for the next key alone, and up to that it is told where the page is.
abbrev pub after_key : KeyEvent → Page → Turn
after_key key p =
    if p.has_colon then record { page = record p { has_colon = false; tells = false }; ask = file_ask p.files key }
    else after_command (command_of key) (record p { tells = false })

-- what the left button does when it is pressed on the bar: the page goes there, and holds the bar
abbrev pub pressed : ℕ → ℕ → Page → Page
pressed x y p = if is_on_bar p x y then record (at_bar p y) { holds_bar = true } else p

-- what the mouse does while that button is down: a page that holds the bar goes there
abbrev pub dragged : ℕ → Page → Page
dragged y p = if p.holds_bar then at_bar p y else p

-- what the mouse does in a column of a row: the wheel three rows
abbrev pub after_kind : MouseEventKind → ℕ → ℕ → Page → Page
after_kind MouseEventKind.ScrollDown x y p = below p 3
after_kind MouseEventKind.ScrollUp x y p = above p 3
after_kind (MouseEventKind.Down Left) x y p = pressed x y p
after_kind (MouseEventKind.Drag Left) x y p = dragged y p
after_kind (MouseEventKind.Up Left) x y p = record p { holds_bar = false }
after_kind kind x y p = p

-- a page after what the mouse did
abbrev pub after_mouse : MouseEvent → Page → Page
after_mouse mouse p = after_kind mouse.kind mouse.column mouse.row p

-- the text and the screen are as before
abbrev pub IsSameScreen : Page → Page → Type 0
IsSameScreen old new = new ≡ record old { top = new.top; count = new.count; holds_bar = new.holds_bar; has_colon = new.has_colon; tells = new.tells }
