-- Labels and trust: 01, "Labels". A label is document 001's dynamic label, a trust its static label.
--     label, trust            a number as one
--     top_label                the highest
--     lower                   the lower of two labels
--     reaches, is_above        one label against another
--     is_met, is_high, covers   a trust against a label
--     normal, capped          what typing makes of a trust, by C; of a trust and a label
-- Assumes nothing.
use Rattle.std.specs.Prelude.{ℕ, min, Bool, true, false, leb, ltb}
use Rattle.labels.specs.declared.Label.{Label}
use Rattle.labels.specs.declared.Trust.{Trust}

abbrev pub label : ℕ → Label
label n = record { 0 = n }

abbrev pub trust : ℕ → Trust
trust n = record { 0 = n }

-- "Labels are 0 to 15, higher is more trusted."
abbrev pub top_label : Label
top_label = label 15

-- 01: "The lower of two labels is read from a table of 256 entries, row times 16 plus column." 02, Five: "The 256-entry table for the
-- lower of two labels goes. A comparison gives the same label for every pair, and nobody above it should see a difference."
unfoldable pub lower : Label → Label → Label
lower a b = label (min a.0 b.0)

-- a is at least b: "higher is more trusted"
abbrev pub reaches : Label → Label → Bool
reaches a b = leb b.0 a.0

-- a is above b
abbrev pub is_above : Label → Label → Bool
is_above a b = ltb b.0 a.0

-- the label is at least the trust
abbrev pub is_met : Trust → Label → Bool
is_met t l = leb t.0 l.0

-- the trust is above C: "a trust or effect at or below C counts as 0 (\"low\")"
abbrev pub is_high : Trust → Label → Bool
is_high t c = ltb c.0 t.0

-- the trust is at least the label
abbrev pub covers : Trust → Label → Bool
covers t l = leb l.0 t.0

-- "In typing, a trust or effect at or below C counts as 0"
unfoldable pub normal : Label → Trust → Trust
normal c t = elim (is_high t c) [ true ↦ t | false ↦ trust 0 ]

-- the smaller of a trust and a label, as an effect
unfoldable pub capped : Trust → Label → Label
capped t l = label (min t.0 l.0)
