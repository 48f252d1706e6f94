-- What events say, whatever the addresses of their texts.
use Rattle.std.specs.Prelude.{ℕ, List, Option}
use Rattle.markdown_spans.specs.declared.attributes.Html.{Html as HtmlShown}
use Rattle.markdown_inline_events.specs.declared.events.Inline.{Inline}
use Rattle.markdown_inline_events.specs.declared.events.Inline.TheVariants.{Start, End, Text, Character, Marks, Code, Html, SoftBreak, HardBreak}
use Rattle.markdown_inline_events.specs.declared.events.InlineEvent.{InlineEvent}
use Rattle.markdown_inline_events.specs.declared.events.InlineTag.{InlineTag}

-- what happens in a text, with the bytes of its texts
pub data InlineContent : Type 0 where
  start : InlineTag → InlineContent
  end : InlineTag → InlineContent
  text : List ℕ → InlineContent
  character : ℕ → Option ℕ → InlineContent
  marks : ℕ → ℕ → InlineContent
  code : List ℕ → InlineContent
  html : HtmlShown → List ℕ → InlineContent
  soft_break : InlineContent
  hard_break : InlineContent

-- what an inline of the code says
abbrev pub inline_of : Inline → InlineContent
inline_of (Start tag) = start tag
inline_of (End tag) = end tag
inline_of (Text said) = text said.now
inline_of (Character c second) = character c second
inline_of (Marks c count) = marks c count
inline_of (Code said) = code said.now
inline_of (Html shown said) = html shown said.now
inline_of SoftBreak = soft_break
inline_of HardBreak = hard_break

-- something that happens, and the bytes of the text that say it
pub record EventContent : Type 0 where
  pub inline : InlineContent
  pub place : ℕ
  pub len : ℕ

-- what an event of the code says
abbrev pub event_of : InlineEvent → EventContent
event_of event = record { inline = inline_of event.inline; place = event.place; len = event.len }
