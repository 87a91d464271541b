use Rattle.std.proofs.lemmas.List.{take_rest}
use Rattle.widths.proofs.Standing.{cluster-front}
use Rattle.widths.proofs.clusters.first_cluster.Goals as goal

pub returns-clause-front : goal.returns-clause-front
returns-clause-front g c =
    let marks = c.marks_behind-marks.ensures in
    rw c.cluster_of.ensures
    (cluster-front _ c.args.bytes.now _ c.in_ok-first.first c.marks_behind-marks.result c.in_ok-first.ensures.decodes (take_rest c.args.bytes.now c.in_ok-first.first.len) (record { marks = marks.marks; alone = marks.alone; next = marks.next }))
