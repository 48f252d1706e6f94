pub use Rattle.mad_md.specs.Flagged
pub use Rattle.mad_md.specs.Inline
pub use Rattle.mad_md.specs.Lines
pub use Rattle.mad_md.specs.Parts
pub use Rattle.mad_md.specs.ReadByMarks
pub use Rattle.mad_md.specs.ReadInline
pub use Rattle.mad_md.specs.ReadRaw
pub use Rattle.mad_md.specs.Cells
pub use Rattle.mad_md.specs.Cursor
pub use Rattle.mad_md.specs.Spans
pub use Rattle.mad_md.specs.TypedLines
pub use Rattle.mad_md.specs.UnmarkedLines
pub use Rattle.mad_md.specs.Reading
pub use Rattle.mad_md.specs.ReadingLaws
pub use Rattle.mad_md.specs.Scan
pub use Rattle.mad_md.specs.Starts
pub use Rattle.mad_md.specs.Tables as DataTables
pub use Rattle.mad_term.specs.Attribute
pub use Rattle.mad_term.specs.AttributeNames
pub use Rattle.mad_term.specs.Attributes
pub use Rattle.mad_term.specs.Color
pub use Rattle.mad_characters.specs.Columns
pub use Rattle.mad_term.specs.Commands
pub use Rattle.mad_screen.specs.Drawing
pub use Rattle.mad_term.specs.Draws
pub use Rattle.mad_term.specs.Errors
pub use Rattle.mad_screen.specs.Glyph
pub use Rattle.mad_screen.specs.Grid
pub use Rattle.mad_screen.specs.Painting
pub use Rattle.mad_screen.specs.Pictures
pub use Rattle.mad_screen.specs.Refusals
pub use Rattle.mad_screen.specs.Scripted
pub use Rattle.mad_screen.specs.Readers
pub use Rattle.mad_term.specs.Stream
pub use Rattle.mad_term.specs.Styles
pub use Rattle.mad_screen.specs.Terminal
pub use Rattle.mad_screen.specs.TerminalLaws
pub use Rattle.mad_term.specs.Trace
pub use Rattle.mad_term.specs.AttributeSets
pub use Rattle.mad_style.specs.Bars
pub use Rattle.mad_style.specs.Borders
pub use Rattle.mad_style.specs.CompoundStyles
pub use Rattle.mad_style.specs.Kinds
pub use Rattle.mad_style.specs.LineStyles
pub use Rattle.mad_style.specs.OrderedItems
pub use Rattle.mad_style.specs.Repeats
pub use Rattle.mad_style.specs.StyledChars
pub use Rattle.mad_parse.specs.Colors
pub use Rattle.mad_parse.specs.Cuts
pub use Rattle.mad_parse.specs.Errors as ParseErrors
pub use Rattle.mad_parse.specs.Names
pub use Rattle.mad_parse.specs.Numbers
pub use Rattle.mad_parse.specs.Reading as ParseReading
pub use Rattle.mad_parse.specs.ReadsBack
pub use Rattle.mad_parse.specs.TokenStyles
pub use Rattle.mad_parse.specs.StyleTokens
pub use Rattle.mad_parse.specs.Written
pub use Rattle.mad_widths.specs.ColumnWidths
pub use Rattle.mad_widths.specs.SeenCells
pub use Rattle.mad_widths.specs.TableFits
pub use Rattle.mad_widths.specs.Turns
pub use Rattle.mad_widths.specs.WorkedWidths
pub use Rattle.mad_measure.specs.Areas
pub use Rattle.mad_measure.specs.RunningWidths
pub use Rattle.mad_measure.specs.Thumbs
pub use Rattle.mad_measure.specs.TextColumns
pub use Rattle.mad_measure.specs.Completions
pub use Rattle.mad_characters.specs.Pictures as ShownCharacters
pub use Rattle.mad_measure.specs.Printable
pub use Rattle.mad_steady.specs.Kept as SteadyKeeps
pub use Rattle.mad_steady.specs.Kinds as SteadyKinds
pub use Rattle.mad_steady.specs.Steady
pub use Rattle.mad_steady.specs.Widths as SteadyWidths
pub use Rattle.mad_measure.specs.TokenPositions
pub use Rattle.mad_measure.specs.Tokens
pub use Rattle.mad_measure.specs.TokensLeft
pub use Rattle.mad_fitting.specs.CenteredCuts
pub use Rattle.mad_fitting.specs.Cuts as RunCuts
pub use Rattle.mad_fitting.specs.Ellipses
pub use Rattle.mad_fitting.specs.Filled as FilledTexts
pub use Rattle.mad_fitting.specs.Fitted
pub use Rattle.mad_fitting.specs.Fronts as TextFronts
pub use Rattle.mad_fitting.specs.Zones
pub use Rattle.mad_draw.specs.BesideBar
pub use Rattle.mad_draw.specs.Crops
pub use Rattle.mad_draw.specs.DrawnRows
pub use Rattle.mad_draw.specs.Fillings
pub use Rattle.mad_draw.specs.Panes
pub use Rattle.mad_draw.specs.Parts as DrawingParts
pub use Rattle.mad_draw.specs.Pieces
pub use Rattle.mad_draw.specs.PlacedPieces
pub use Rattle.mad_draw.specs.PennedCells
pub use Rattle.mad_draw.specs.ProgressBars
pub use Rattle.mad_draw.specs.Rects
pub use Rattle.mad_draw.specs.SpacedTexts
pub use Rattle.mad_draw.specs.TableRules
pub use Rattle.mad_blocks.specs.CodeBlocks
pub use Rattle.mad_format.specs.CompositeWraps
pub use Rattle.mad_layout.specs.Drawable
pub use Rattle.mad_blocks.specs.FittingLayouts
pub use Rattle.mad_layout.specs.FilledComposites
pub use Rattle.mad_format.specs.Fitting
pub use Rattle.mad_layout.specs.FlaggedLines
pub use Rattle.mad_layout.specs.FlaggedRows
pub use Rattle.mad_layout.specs.FlaggedTables
pub use Rattle.mad_layout.specs.FlaggedTexts
pub use Rattle.mad_blocks.specs.Fronts
pub use Rattle.mad_layout.specs.Headline
pub use Rattle.mad_layout.specs.InArea
pub use Rattle.mad_format.specs.Indents
pub use Rattle.mad_layout.specs.Inlines
pub use Rattle.mad_layout.specs.ItemCells
pub use Rattle.mad_layout.specs.ItemStyles
pub use Rattle.mad_layout.specs.LaidOutTexts
pub use Rattle.mad_blocks.specs.LayoutLaws
pub use Rattle.mad_blocks.specs.LayoutExamples
pub use Rattle.mad_blocks.specs.Layouts
pub use Rattle.mad_format.specs.LineRules
pub use Rattle.mad_format.specs.FmtLines
pub use Rattle.mad_layout.specs.MadeSkins
pub use Rattle.mad_blocks.specs.LayoutParts
pub use Rattle.mad_layout.specs.PrintableTables
pub use Rattle.mad_layout.specs.Premises
pub use Rattle.mad_layout.specs.RecoloredSkins
pub use Rattle.mad_rows.specs.Rows
pub use Rattle.mad_layout.specs.RowSkins
pub use Rattle.mad_layout.specs.SeveralKinds
pub use Rattle.mad_layout.specs.Shown
pub use Rattle.mad_layout.specs.ShownLayouts
pub use Rattle.mad_layout.specs.SkinParts
pub use Rattle.mad_layout.specs.Skins
pub use Rattle.mad_rows.specs.RowStyles
pub use Rattle.mad_blocks.specs.TableLaws
pub use Rattle.mad_blocks.specs.Tables
pub use Rattle.mad_blocks.specs.TextParts
pub use Rattle.mad_layout.specs.Texts
pub use Rattle.mad_format.specs.PlainWraps
pub use Rattle.mad_format.specs.WrappedLines
pub use Rattle.mad_format.specs.Wraps
pub use Rattle.mad_layout.specs.WrittenParts
pub use Rattle.mad_view.specs.MadViews
pub use Rattle.mad_view.specs.Scrolls
pub use Rattle.mad_view.specs.ViewKeys
pub use Rattle.mad_view.specs.Views
pub use Rattle.mad_wrap.specs.Bounds
pub use Rattle.mad_wrap.specs.Breaks
pub use Rattle.mad_wrap.specs.CleanCut
pub use Rattle.mad_wrap.specs.Keeps
pub use Rattle.mad_wrap.specs.Laws as WrapLaws
pub use Rattle.mad_wrap.specs.LeastBound
pub use Rattle.mad_wrap.specs.LeastWrap
pub use Rattle.mad_wrap.specs.LineStarts
pub use Rattle.mad_wrap.specs.Placings
pub use Rattle.mad_wrap.specs.Rooms
pub use Rattle.mad_wrap.specs.WrapLines
pub use Rattle.mad_json.specs.Errors as SkinErrors
pub use Rattle.mad_json.specs.Faults as SkinFaults
pub use Rattle.mad_json.specs.Fields as SkinFields
pub use Rattle.mad_json.specs.Lists as SkinLists
pub use Rattle.mad_json.specs.Modes
pub use Rattle.mad_json.specs.Reading as SkinReading
pub use Rattle.mad_json.specs.ReadsBack as SkinsReadBack
pub use Rattle.mad_json.specs.ScrollBars
pub use Rattle.mad_json.specs.Texts as SkinTexts
pub use Rattle.mad_json.specs.Written as SkinWritten
pub use Rattle.mad_edit_lines.specs.TextLines
pub use Rattle.mad_edit_lines.specs.LineColumns
pub use Rattle.mad_edit_lines.specs.CharClasses
pub use Rattle.mad_edit_lines.specs.PositionOrder
pub use Rattle.mad_edit.specs.Editor
pub use Rattle.mad_edit.specs.Undo
pub use Rattle.mad_edit.specs.Words as EditedWords
pub use Rattle.mad_edit.specs.Examples as EditingExamples
pub use Rattle.mad_layout.specs.Sources
pub use Rattle.mad_layout.specs.Words as ShownWords
pub use Rattle.mad_parse.specs.Laws as ParseLaws
pub use Rattle.mad_wrap.specs.Examples as WrapExamples
pub use Rattle.mad_wrap.specs.FirstFit
pub use Rattle.mad_term.specs.Events
pub use Rattle.mad_field_rows.specs.LineRows
pub use Rattle.mad_field_rows.specs.RowChars
pub use Rattle.mad_field_rows.specs.RowPieces
pub use Rattle.mad_field.specs.Clicks
pub use Rattle.mad_field.specs.Drawn as DrawnFields
pub use Rattle.mad_field.specs.Edits as FieldEdits
pub use Rattle.mad_field.specs.Fields
pub use Rattle.mad_field.specs.Keys as FieldKeys
pub use Rattle.mad_field.specs.Positions as FieldPositions
pub use Rattle.mad_field.specs.Rows as FieldRows
pub use Rattle.mad_field.specs.Scrolls as FieldScrolls
pub use Rattle.mad_field.specs.Shown as ShownFields
pub use Rattle.mad_list_rows.specs.Adding as RowAdding
pub use Rattle.mad_list_rows.specs.Answers as RowAnswers
pub use Rattle.mad_list_rows.specs.Scrolling as RowScrolling
pub use Rattle.mad_list_rows.specs.Selecting as RowSelecting
pub use Rattle.mad_list_rows.specs.States as RowStates
pub use Rattle.mad_list_columns.specs.Bodies as ListBodies
pub use Rattle.mad_list_columns.specs.Cells as ListCells
pub use Rattle.mad_list_columns.specs.Columns as ListColumns
pub use Rattle.mad_list_columns.specs.Drawing as ListDrawing
pub use Rattle.mad_list.specs.Lists
pub use Rattle.mad_ask.specs.Deciding
pub use Rattle.mad_ask.specs.ErrorTexts as AskErrorTexts
pub use Rattle.mad_ask.specs.Offers
pub use Rattle.mad_ask.specs.Reading as AnswerReading
pub use Rattle.mad_ask.specs.Replies
pub use Rattle.mad_ask.specs.Asking
pub use Rattle.mad_ask.specs.QuestionTexts
pub use Rattle.mad_ask.specs.Questions
pub use Rattle.mad_keys.specs.Decoding as KeyDecoding
pub use Rattle.mad_keys.specs.Digits as KeyDigits
pub use Rattle.mad_keys.specs.EventBytes
pub use Rattle.mad_keys.specs.Forms as KeyForms
pub use Rattle.mad_keys.specs.Keys as KeyCodes
pub use Rattle.mad_keys.specs.Laws as KeyLaws
pub use Rattle.mad_keys.specs.Meanings as KeyMeanings
pub use Rattle.mad_keys.specs.PlainBytes as PlainEventBytes
pub use Rattle.mad_keys.specs.Readings as KeyReadings
pub use Rattle.mad_keys.specs.Sequences as KeySequences
pub use Rattle.mad_keys.specs.Steps as KeySteps
pub use Rattle.mad_frames.specs.Changes as FrameChanges
pub use Rattle.mad_frames.specs.FrameLaws
pub use Rattle.mad_frames.specs.Frames
pub use Rattle.mad_frames.specs.Mending as MendedScreens
pub use Rattle.mad_frames.specs.Refusals as PresentRefusals
pub use Rattle.mad_frames.specs.Whole as WholeScreens
pub use Rattle.mad_live.specs.LiveRows
pub use Rattle.mad_live.specs.PaintedRows
pub use Rattle.mad_live.specs.PaperLaws
pub use Rattle.mad_live.specs.Papers
pub use Rattle.mad_stream.specs.FittingRows
pub use Rattle.mad_stream.specs.Fronts as StreamedParts
pub use Rattle.mad_stream.specs.LiveSources
pub use Rattle.mad_stream.specs.LiveTexts
pub use Rattle.mad_stream.specs.PrintedPieces
pub use Rattle.mad_stream.specs.Sources as StreamedSources
pub use Rattle.mad_stream.specs.Streams
pub use Rattle.mad_stream.specs.TextFronts as StreamedFronts
pub use Rattle.mad_sections.specs.Gutters
pub use Rattle.mad_sections.specs.Sections
pub use Rattle.mad_sections.specs.Unfolded
pub use Rattle.mad_pages.specs.PageLayouts
pub use Rattle.mad_pages.specs.PageRows
pub use Rattle.mad_page_rows.specs.AreaRows as PageAreaRows
pub use Rattle.mad_page_rows.specs.FaceLaws
pub use Rattle.mad_page_rows.specs.Faces
pub use Rattle.mad_page_rows.specs.PageFits
pub use Rattle.markdown_layout.specs.DrawnMarkdown
pub use Rattle.markdown_layout.specs.KeptPremises
pub use Rattle.markdown_layout.specs.WrittenPages
pub use Rattle.markdown_view.specs.MarkdownViews
pub use Rattle.markdown_reader.specs.Markdown
pub use Rattle.markdown_reader.specs.MarkdownSays
pub use Rattle.markdown_reader.specs.Printed
pub use Rattle.markdown_live.specs.Growing as GrowingMarkdown
pub use Rattle.markdown_live.specs.LiveMarkdowns
pub use Rattle.markdown_live.specs.ShownLines
pub use Rattle.markdown_live.specs.Sources as LiveMarkdownSources
pub use Rattle.markdown_stream.specs.Come as MarkdownComing
pub use Rattle.markdown_stream.specs.Sources as MarkdownSources
pub use Rattle.markdown_stream.specs.Streamed as StreamedMarkdown
pub use Rattle.markdown_stream.specs.Streams as MarkdownStreams
