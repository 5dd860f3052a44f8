-- The copy is read as the plate is, so what is written is what the definition shows of what was
-- read.
use Rattle.std.proofs.Common.{refl, sym, ◌∙◌}
use Rattle.plates.specs.Plate.{zero_edges}
use Rattle.lambdatwist.specs.Solve.{answered, refused}
use Rattle.lent_answers.specs.Solved.{poses_after, updates_after, lifted_after, count_after}
use Rattle.lent_answers.proofs.WriteLaws.{when-refused}
use Rattle.p3p.specs.PreviewLent.{edge_entries}
use Rattle.p3p.proofs.PreviewLaws.{read_again, refusal-shown, copy-shown}
use Rattle.p3p.proofs.plate_preview.p3p_plate_preview.Goals as goal

pub returns-then-refusal-ne0 : goal.returns-then-refusal-ne0
unfolding poses_after updates_after lifted_after count_after refused answered edge_entries zero_edges
returns-then-refusal-ne0 c =
    let same = read_again _ _ _ c.plate_in.ensures c.plate_entries-copy.ensures in
    let is-refused = c.if-refusal-ne0.true in
    rw (refusal-shown _ _ _ _ _ _ same c.p3p_plate_replace-refusal.ensures.value is-refused)
    record {
      value = refl;
      poses_after = when-refused _ _ is-refused;
      updates_after = when-refused _ _ is-refused;
      lifted_after = when-refused _ _ is-refused;
      count_after = when-refused _ _ is-refused;
      edges_after = refl;
    }

pub returns : goal.returns
unfolding edge_entries
returns c =
    let same = read_again _ _ _ c.plate_in.ensures c.plate_entries-copy.ensures in
    let left = c.p3p_plate_replace-refusal.ensures in
    let w = c.p3p_plate_solve.ensures in
    rw (
      copy-shown _ _ _ _ _ _ same (sym left.value ∙ c.if-refusal-ne0.false),
      ← left.plate_after,
      ← left.has_inverse_after,
    )
    record {
      value = w.value;
      poses_after = w.poses_after;
      updates_after = w.updates_after;
      lifted_after = w.lifted_after;
      count_after = w.count_after;
      edges_after = refl;
    }
