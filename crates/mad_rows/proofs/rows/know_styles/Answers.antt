use Rattle.mad_rows.proofs.rows.know_styles.Goals as goal

pub returns : goal.returns
returns c = record { parts = c.know_parts.ensures; headers = c.know_all.ensures; items = c.know_all-2.ensures; tones = rw c.tone_styles.ensures at c.know_all-3.ensures }
