-- One name to unfold where a proof computes with a text that is written out. tools/html_theorems --names writes it.

unfoldable pub reading : Unit {0}
unfolding
    Rattle.markdown_entities.specs.Lookup.find_name Rattle.markdown_marks.specs.Bytes.is_blank Rattle.markdown_marks.specs.Bytes.count_in_front
    Rattle.markdown_marks.specs.Bytes.is_run_alone Rattle.markdown_marks.specs.Bytes.without_blanks Rattle.markdown_marks.specs.Definitions.after_label
    Rattle.markdown_marks.specs.Definitions.after_angle Rattle.markdown_marks.specs.Definitions.after_bare
    Rattle.markdown_marks.specs.Definitions.after_title Rattle.markdown_marks.specs.Definitions.after_definition
    Rattle.markdown_marks.specs.Definitions.are_definitions Rattle.markdown_marks.specs.Headings.without_end
    Rattle.markdown_marks.specs.Headings.heading_text Rattle.markdown_marks.specs.Html.ends_alone Rattle.markdown_marks.specs.Marks.is_rule
    Rattle.markdown_marks.specs.Marks.heading_level Rattle.markdown_marks.specs.Marks.fence_start Rattle.markdown_marks.specs.Marks.underline_level
    Rattle.markdown_marks.specs.Remaining.one_column Rattle.markdown_marks.specs.Remaining.take_columns
    Rattle.markdown_marks.specs.Remaining.columns_in_front Rattle.markdown_marks.specs.Remaining.skip Rattle.markdown_marks.specs.Tables.cells_from
    Rattle.markdown_marks.specs.Tables.cell_count Rattle.markdown_marks.specs.Tables.columns_from Rattle.markdown_marks.specs.Tables.delimited_columns
    Rattle.markdown_html.specs.Ends.contains Rattle.markdown_html.specs.Ends.has_raw_end Rattle.markdown_html.specs.Ends.ends_html
    Rattle.markdown_html.specs.Names.same_letters Rattle.markdown_html.specs.Names.raw_names Rattle.markdown_html.specs.Names.block_names
    Rattle.markdown_html.specs.Starts.html_start Rattle.markdown_spans.specs.Attributes.attribute_from Rattle.markdown_spans.specs.Decoded.decoded_from
    Rattle.markdown_spans.specs.Entities.value_after Rattle.markdown_spans.specs.Needles.after_first Rattle.markdown_spans.specs.Tags.after_tag
    Rattle.markdown_spans.specs.Ticks.run_at Rattle.markdown_spans.specs.Ticks.last_run Rattle.markdown_spans.specs.Words.words
    Rattle.markdown_addresses.specs.Addresses.after_domain Rattle.markdown_addresses.specs.Bare.domain_len Rattle.markdown_addresses.specs.Bare.is_low
    Rattle.markdown_addresses.specs.Bare.count_of Rattle.markdown_addresses.specs.Bare.ends_name Rattle.markdown_addresses.specs.Bare.trimmed
    Rattle.markdown_pieces.specs.Cut.step Rattle.markdown_pieces.specs.Cut.cut_from Rattle.markdown_pieces.specs.Pieces.html_piece
    Rattle.markdown_pieces.specs.Pieces.plain_from Rattle.markdown_pieces.specs.Pieces.plain_piece Rattle.markdown_pieces.specs.Pieces.piece_at
    Rattle.markdown_blocks.specs.Containers.goes_on Rattle.markdown_blocks.specs.Containers.matched
    Rattle.markdown_blocks.specs.Containers.container_start Rattle.markdown_blocks.specs.Containers.opened
    Rattle.markdown_blocks.specs.Containers.ends_in_item Rattle.markdown_blocks.specs.Events.events_from Rattle.markdown_blocks.specs.Events.events_of
    Rattle.markdown_blocks.specs.Leaves.going_on Rattle.markdown_blocks.specs.Leaves.mark_start Rattle.markdown_blocks.specs.Leaves.leaf_start
    Rattle.markdown_blocks.specs.Lines.text_lines Rattle.markdown_blocks.specs.Steps.begun_line Rattle.markdown_blocks.specs.Steps.line_step
    Rattle.markdown_blocks.specs.Steps.step Rattle.markdown_leaves.specs.Defining.joined Rattle.markdown_leaves.specs.Defining.after_definitions
    Rattle.markdown_leaves.specs.Defining.kept_lines Rattle.markdown_leaves.specs.Gather.filled_from Rattle.markdown_leaves.specs.Gather.closed
    Rattle.markdown_leaves.specs.Gather.line_done Rattle.markdown_leaves.specs.Told.told Rattle.markdown_leaves.specs.Told.parts_of
    Rattle.markdown_cells.specs.Cells.cell_len Rattle.markdown_cells.specs.Cells.unbarred Rattle.markdown_cells.specs.Cells.alignments
    Rattle.markdown_lines.specs.Tables.cells Rattle.markdown_lines.specs.Tables.table_lines Rattle.markdown_lines.specs.Tables.cells_addresses
    Rattle.markdown_lines.specs.Tables.rows_links Rattle.markdown_definitions.specs.Definitions.defined_in
    Rattle.markdown_definitions.specs.Definitions.parts_defined Rattle.markdown_as_html.specs.Blocks.still_to_come
    Rattle.markdown_as_html.specs.Defined.defined_in Rattle.markdown_as_html.specs.Defined.parts_defined Rattle.markdown_as_html.specs.Escaped.escaped
    Rattle.markdown_as_html.specs.Escaped.addressed Rattle.markdown_as_html.specs.Html.cells_html Rattle.markdown_as_html.specs.Html.blocks_html
    Rattle.markdown_as_html.specs.Html.html_of Rattle.markdown_as_html.specs.Inlines.spans_from Rattle.markdown_as_html.specs.Inlines.pieces_html
    Rattle.markdown_as_html.specs.Inlines.inline_html Rattle.markdown_as_html.specs.Lists.are_parted Rattle.markdown_as_html.specs.Lists.goes_on_loose
    Rattle.markdown_as_html.specs.Lists.are_seen Rattle.markdown_as_html.specs.Lists.begins_line Rattle.ucd_category.proofs.Computing.ucd_category
    Rattle.caseless.proofs.Computing.caseless Rattle.std.specs.Str.chars Rattle.std.specs.Char.encode_utf8 Rattle.std.specs.Str.is_utf8
    Rattle.std.specs.Str.Lossy.utf8_lossy Rattle.std.specs.Str.Lossy.utf8_valid_len Rattle.std.specs.Fmt.digits
reading = tt
