use Rattle.std.proofs.Common.{◌∙◌, length, Some, refl, sym, ap}
use Rattle.std.proofs.lemmas.Option.{slice_get_read}
use Rattle.plant_fuse.proofs.taken_stages_and_parts.take_stage.Goals as goal

pub returns : goal.returns
returns c =
    let items = c.args.stages.now.items in
    record {
      was =
          slice_get_read items (length items) c.args.at c.index_mut.result.now refl c.requires c.index_mut.ensures.value
          ∙ ap Some (sym c.replace.ensures.value);
      other = c.replace.new.dest;
      now_is = refl;
    }
