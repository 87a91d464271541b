-- The bytes of a layout are those of its page, and the texts drawn are the page's.
use Rattle.std.proofs.Common.{◌≡◌, ℕ, ◌-◌, Bool, true, false, cond, List, ◌++◌, Some, None, Option}
use Rattle.layout.specs.declared.block.Layout.{Layout}
use Rattle.measuring.specs.Measured.{Laid}
use Rattle.page.specs.Acts.{Replies}
use Rattle.page.specs.Law.{Settings, StyledBy, World}
use Rattle.page.specs.Law as law
use Rattle.page.specs.Output.{draw_page, erase_page}
use Rattle.page.specs.Page.{Page, block_text, front_text}
use Rattle.render.specs.Drawing.{NoteLit, Styles, Texts, Uncoloured, draw_layout, erase_layout, note_bytes}
use Rattle.screen.specs.Output.{closing, erase_bytes, to_column, up_by}
use Rattle.screen.specs.Screen.{Geometry}
use Rattle.session.specs.Styling.{Coloured, StyledTexts}

module _ (d : Geometry) (ps : List ℕ) (p : Page) (l : Layout) (k : Laid d ps (front_text ps p) (block_text ps p) l) where
  pub laid-erases : erase_layout l ≡ erase_page d ps p
  laid-erases i = erase_bytes ((k.end i).row - (k.cursor i).row) (k.end i).row

  pub laid-draws : (r : Replies) → draw_layout (record { prompt = r.prompt; line = r.line; note = r.note }) l ≡ draw_page d ps r p
  laid-draws r i = (r.prompt ++ (r.line ++ r.note)) ++ (closing (k.full i) ++ (up_by ((k.end i).row - (k.cursor i).row) ++ to_column (k.cursor i).col))

-- the texts of a page
abbrev pub page_texts : Settings → Page → Texts
page_texts z q = record { raw = z.raw; styled = z.styled; line = q.line; pos = q.pos; note = q.note }

-- what the highlighter answered, with the texts as they are drawn
abbrev pub replies_of : Option (List ℕ) → Bool → Styles → Replies
replies_of hint y s = record { hint = hint; yes = y; prompt = s.prompt; line = s.line; note = s.note }

module _ {T H : Type 0} (w : World T H) (z : Settings) (h : H) (q : Page) (hint : Option (List ℕ)) (y : Bool) (s : Styles) where
  note-lit : (o : Option (List ℕ)) (lit : List ℕ) → NoteLit (w.lights_hint h) o lit → law.NoteLit w z h o lit
  note-lit None lit e = e
  note-lit (Some t) lit e = e

  note-bytes : (o : Option (List ℕ)) (lit : List ℕ) → lit ≡ note_bytes o → lit ≡ law.note_bytes w z o
  note-bytes None lit e = e
  note-bytes (Some t) lit e = e

  pub styled-page : StyledTexts (w.lights h) (w.lights_prompt h) (w.lights_hint h) z.colours (page_texts z q) s → StyledBy w z h q (replies_of hint y s)
  styled-page = by z.colours
    where
      by : (b : Bool) → cond b (Coloured (w.lights h) (w.lights_prompt h) (w.lights_hint h) (page_texts z q) s) (Uncoloured (page_texts z q) s)
          → cond b (law.Coloured w z h q (replies_of hint y s)) (law.Uncoloured w z q (replies_of hint y s))
      by true c = record { prompt = c.prompt; line = c.line; note = note-lit q.note s.note c.note }
      by false c = record { prompt = c.prompt; line = c.line; note = note-bytes q.note s.note c.note }
