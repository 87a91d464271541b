use Rattle.std.proofs.Common.{◌≡◌, ℕ, Some, None, Err, subst, rules}
use Rattle.measuring.specs.Measured.{Computes, Repeats, Walks}
use Rattle.measuring.specs.declared.measuring.Window.{Window}
use Rattle.session.proofs.Locating.{put-held, put-high, put-no-rest, put-no-text}
use Rattle.text.specs.declared.refusal.Refusal.TheVariants.{Tall}
use Rattle.session.proofs.session.Session.judge_put.Goals as goal

pub returns-in_err-cursor : goal.returns-in_err-cursor
returns-in_err-cursor g c =
    let refused : c.from_residual-in_err-cursor.result ≡ Err Tall = search rules in
    rw refused
    (put-no-text g.T.Widths.WidthTable.columns g.met.T.Widths.WidthTable.narrow c.args.self.now c.args.tables.now c.args.front c.args.text.now c.args.count c.in_ok-check_insert.ensures
    (subst (λ (n : ℕ). Repeats g.T.Widths.WidthTable.columns n c.args.front c.args.text.now c.args.count None) c.cols-cols.ensures (rw c.in_err-cursor.ensures.ok_part at c.walk_repeated.ensures)))

pub returns-in_err-end : goal.returns-in_err-end
returns-in_err-end g c =
    let refused : c.from_residual-in_err-end.result ≡ Err Tall = search rules in
    rw refused
    (put-no-rest g.T.Widths.WidthTable.columns g.met.T.Widths.WidthTable.narrow c.args.self.now c.args.tables.now c.args.front c.args.text.now c.args.count c.in_ok-check_insert.ensures c.in_ok-cursor.cursor c.rest.result.now c.rest.ensures
    (subst (λ (n : ℕ). Repeats g.T.Widths.WidthTable.columns n c.args.front c.args.text.now c.args.count (Some c.in_ok-cursor.cursor)) c.cols-cols.ensures (rw c.in_ok-cursor.ensures.ok_part at c.walk_repeated.ensures))
    (subst (λ (n : ℕ). Walks g.T.Widths.WidthTable.columns n c.in_ok-cursor.cursor c.rest.result.now None) c.cols-cols.ensures (rw c.in_err-end.ensures.ok_part at c.walk_text.ensures)))

pub returns-in_err-layout : goal.returns-in_err-layout
returns-in_err-layout g c =
    let refused : c.from_residual-in_err-layout.result ≡ Err Tall = search rules in
    rw refused
    (put-high g.T.Widths.WidthTable.columns g.met.T.Widths.WidthTable.narrow c.args.self.now c.args.tables.now c.args.front c.args.text.now c.args.count c.in_ok-check_insert.ensures c.in_ok-cursor.cursor c.in_ok-end.end c.rest.result.now c.rest.ensures
    (subst (λ (n : ℕ). Repeats g.T.Widths.WidthTable.columns n c.args.front c.args.text.now c.args.count (Some c.in_ok-cursor.cursor)) c.cols-cols.ensures (rw c.in_ok-cursor.ensures.ok_part at c.walk_repeated.ensures))
    (subst (λ (n : ℕ). Walks g.T.Widths.WidthTable.columns n c.in_ok-cursor.cursor c.rest.result.now (Some c.in_ok-end.end)) c.cols-cols.ensures (rw c.in_ok-end.ensures.ok_part at c.walk_text.ensures))
    (subst (λ (v : Window). Computes g.T.Widths.WidthTable.columns v.size v.prompt (record { cursor = c.in_ok-cursor.cursor; end = c.in_ok-end.end }) None None) c.window.ensures (rw c.in_err-layout.ensures.ok_part at c.line_layout.ensures)))

pub returns : goal.returns
returns g c =
    put-held g.T.Widths.WidthTable.columns g.met.T.Widths.WidthTable.narrow c.args.self.now c.args.tables.now c.args.front c.args.text.now c.args.count c.in_ok-check_insert.ensures c.in_ok-cursor.cursor c.in_ok-end.end c.rest.result.now c.rest.ensures
    (subst (λ (n : ℕ). Repeats g.T.Widths.WidthTable.columns n c.args.front c.args.text.now c.args.count (Some c.in_ok-cursor.cursor)) c.cols-cols.ensures (rw c.in_ok-cursor.ensures.ok_part at c.walk_repeated.ensures))
    (subst (λ (n : ℕ). Walks g.T.Widths.WidthTable.columns n c.in_ok-cursor.cursor c.rest.result.now (Some c.in_ok-end.end)) c.cols-cols.ensures (rw c.in_ok-end.ensures.ok_part at c.walk_text.ensures))
    c.in_ok-layout.layout
    (subst (λ (v : Window). Computes g.T.Widths.WidthTable.columns v.size v.prompt (record { cursor = c.in_ok-cursor.cursor; end = c.in_ok-end.end }) None (Some c.in_ok-layout.layout)) c.window.ensures (rw c.in_ok-layout.ensures.ok_part at c.line_layout.ensures))
