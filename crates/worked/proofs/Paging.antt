-- The examples about pages, computed.
use Rattle.std.proofs.Common.{refl}
use Rattle.page.specs.Page.{Page}
use Rattle.screen.specs.Screen.{full, on_row, over, place_col, place_row, placed, put_pen, split}
use Rattle.std.specs.Fmt.{digits}
use Rattle.std.specs.Str.{chars}
use Rattle.worked.specs.Pages.{WorkedInserts, WorkedLines, WorkedNotes, WorkedOutput, WorkedPages, WorkedRows}

worked-lines : (p : Page) → WorkedLines p
unfolding put_pen on_row placed split over place_row place_col full chars digits
worked-lines p = record {
  inserted-line = refl;
  inserted-pos = refl;
  set-line = refl;
  set-pos = refl;
  go-line = refl;
  go-pos = refl;
  created-line = refl;
}

worked-notes : (p : Page) → WorkedNotes p
unfolding put_pen on_row placed split over place_row place_col full chars digits
worked-notes p = record {
  hint-shown = refl;
  hint-kept = refl;
  hint-first = refl;
  hint-low = refl;
  hint-tall = refl;
  hint-tall-kept = refl;
  insert-drops = refl;
  message-shown = refl;
  message-hint = refl;
  message-behind = refl;
  message-lit = refl;
  go-keeps = refl;
  go-drops = refl;
  go-hint = refl;
  go-lit = refl;
  go-stays = refl;
  notice-note = refl;
  notice-message = refl;
  notice-lit = refl;
}

worked-rows : (p : Page) → WorkedRows p
unfolding put_pen on_row placed split over place_row place_col full chars digits
worked-rows p = record {
  notice-base = refl;
  notice-cell = refl;
  notice-closed = refl;
  notice-two = refl;
  create-base = refl;
  create-window = refl;
  create-follows = refl;
  clear-base = refl;
  clear-window = refl;
  set-follows = refl;
  finish-follows = refl;
  finish-ends = refl;
  finish-row = refl;
  finish-col = refl;
  finish-breaks = refl;
  row-below = refl;
}

worked-inserts : (p : Page) → WorkedInserts p
unfolding put_pen on_row placed split over place_row place_col full chars digits
worked-inserts p = record {
  letter = refl;
  several = refl;
  fills = refl;
  mark = refl;
  inside = refl;
  under-note = refl;
  hint-comes = refl;
  lit-now = refl;
  lit-before = refl;
}

worked-output : (p : Page) → WorkedOutput p
unfolding put_pen on_row placed split over place_row place_col full chars digits
worked-output p = record {
  create-held = refl;
  create-free = refl;
  refresh-held = refl;
  clear-held = refl;
  clear-torn = refl;
  clear-free = refl;
  notice-held = refl;
  notice-closed = refl;
  message-drawn = refl;
  go-stays = refl;
  go-moves = refl;
  go-draws = refl;
  go-lit = refl;
  finish-there = refl;
  finish-in-row = refl;
  finish-below = refl;
  refresh-end = refl;
  insert-alone = refl;
}

pub worked-pages : (p : Page) → WorkedPages p
worked-pages p = record { lines = worked-lines p; notes = worked-notes p; rows = worked-rows p; inserts = worked-inserts p; output = worked-output p }
