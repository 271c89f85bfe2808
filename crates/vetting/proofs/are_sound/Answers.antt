-- `are_sound` meets its contract: behind the last test each table is sound, and no other way answers true. Assumes nothing.
use Rattle.std.proofs.Common.{sym, ◌∙◌}
use borrow.Author.Tests.{lt-leb}
use Rattle.std.proofs.lemmas.Bool.{false≢true}
use Rattle.vetting.proofs.Vetted.{vetted}
use Rattle.vetting.proofs.are_sound.Goals as goal
use Rattle.vetting.proofs.are_sound.Goals.{then-are_cells_sound, else-are_cells_sound, then-are_shapes_sound, else-are_shapes_sound, then-t-le-C, else-t-le-C}

pub returns-then-are_blocks_sound : goal.returns-then-are_blocks_sound
returns-then-are_blocks_sound c =
    let blocks = c.if-are_blocks_sound.true in
    λ e. elim c.if-are_cells_sound.branch [
      | then-are_cells_sound b ↦ elim c.if-are_shapes_sound.branch [
        | then-are_shapes_sound k ↦ elim c.if-t-le-C.branch [
          | then-t-le-C s ↦
              vetted _ _ _ _ _ _ _ _ _ c.as_chunks.ensures.front c.as_chunks-2.ensures.front c.as_chunks-3.ensures.front c.as_chunks-4.ensures.front
              s.if-t-le-C.true (s.are_shapes_sound.ensures (sym s.value-is ∙ k.if-are_shapes_sound.true))
              (k.are_cells_sound.ensures (sym k.value-is ∙ b.if-are_cells_sound.true)) (b.are_blocks_sound.ensures (sym b.value-is ∙ blocks)) (c.are_steps_sound.ensures e)
          | else-t-le-C w ↦ absurd (false≢true (sym (lt-leb _ _ w.if-t-le-C.false) ∙ sym w.value-is ∙ k.if-are_shapes_sound.true))
        ]
        | else-are_shapes_sound w ↦ absurd (false≢true (sym w.if-are_shapes_sound.false ∙ sym w.value-is ∙ b.if-are_cells_sound.true))
      ]
      | else-are_cells_sound w ↦ absurd (false≢true (sym w.if-are_cells_sound.false ∙ sym w.value-is ∙ blocks))
    ]
