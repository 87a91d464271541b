-- Texts behind what is composed, as they are or as a highlighter answers them.
use Rattle.std.proofs.Common.{◌≡◌, ℕ, ◌≤◌, true, List, ◌++◌, length, Some, None, Option, refl, subst, arith, length-append}
use Rattle.lines.proofs.Buffers.{line-short}
use Rattle.lines.proofs.Notes.{note-text}
use Rattle.lines.proofs.Prompts.{raw-short}
use Rattle.lines.specs.Lines.{line_of}
use Rattle.lines.specs.Notes.{note_of}
use Rattle.lines.specs.Prompts.{raw_of, styled_of}
use Rattle.lines.specs.declared.line_buffer.LineBuffer.{LineBuffer}
use Rattle.lines.specs.declared.note.Note.{Note}
use Rattle.lines.specs.declared.prompt.Prompt.{Prompt}
use Rattle.render.proofs.Buffers.{push-three}
use Rattle.render.specs.Drawing.{Appends, AppendsTexts, Coloured, NoteLit, Uncoloured, block_texts, note_bytes, texts_of}
use Rattle.render.specs.declared.block.Block.{Block}
use Rattle.highlight.specs.declared.highlight.Highlighter.{Ghosts}

pub note-short : (n : Note) → length (note_bytes (note_of n)) ≤ 1024
note-short n = by (note_of n) refl
  where
    by : (o : Option (List ℕ)) → note_of n ≡ o → length (note_bytes o) ≤ 1024
    by None e = omega arith
    by (Some t) e = (note-text n t e).short

-- prompt, line and note as they are
pub plain-appends : (p : Prompt) (b : LineBuffer) (n : Note) (before after : List ℕ) → after ≡ before ++ (raw_of p ++ (line_of b ++ note_bytes (note_of n))) → AppendsTexts (Uncoloured (texts_of p b n)) 6400 before after
plain-appends p b n before after e = record {
  styles = record { prompt = raw_of p; line = line_of b; note = note_bytes (note_of n) };
  styled = record { prompt = refl; line = refl; note = refl };
  short = omega (arith, length-append (raw_of p) (line_of b ++ note_bytes (note_of n)), length-append (line_of b) (note_bytes (note_of n)), raw-short p, line-short b, note-short n);
  bytes = e;
}

-- one answer behind the other
module _ {H : Type 0} (asked : Ghosts H) (h : H) (b : Block) where
  pub lit-appends : (before one two end : List ℕ) → Appends (asked.lights_prompt h (styled_of b.prompt.now) true) 768 before one → Appends (asked.lights h (line_of b.line.now) b.line.now.pos) 4352 one two → Appends (NoteLit (asked.lights_hint h) (note_of b.note.now)) 1280 two end
      → AppendsTexts (Coloured asked h (block_texts b)) 6400 before end
  lit-appends before one two end x y z = record {
    styles = record { prompt = x.answer; line = y.answer; note = z.answer };
    styled = record { prompt = x.allowed; line = y.allowed; note = z.allowed };
    short = omega (arith, length-append x.answer (y.answer ++ z.answer), length-append y.answer z.answer, x.short, y.short, z.short);
    bytes = push-three before one two end x.answer y.answer z.answer x.bytes y.bytes z.bytes;
  }

-- a note that there is
pub note-appends : {before after : List ℕ} (lights : List ℕ → List ℕ → Type 0) (n : Note) (t : List ℕ) (limit : ℕ) → Some t ≡ note_of n → Appends (lights t) limit before after → Appends (NoteLit lights (note_of n)) limit before after
note-appends {before} {after} lights n t limit e a = subst (λ o. Appends (NoteLit lights o) limit before after) e a
