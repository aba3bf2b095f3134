use Rattle.std.proofs.Common.{◌≡◌, ◌<◌, length, slice_index_or, ap, sym, ◌∙◌, subst, arith}
use Rattle.pals_model.proofs.OverwrittenTuples.{same_size, sizes_stay, more_copied}
use Rattle.pals_model.proofs.part.Part.copy_from.Goals as goal

pub copy_from_slice-requires : goal.copy_from_slice-requires
copy_from_slice-requires c =
    let within : c.loop-at.at < length c.args.other.now.outs = omega arith in
    same_size c.loop-at.self.outs c.args.other.now.outs c.loop-at.at c.index_mut.result.now c.index.result.now within
    c.index_mut.ensures.value c.index.ensures c.loop-at.invariant.sizes
    ∙ ap length (sym c.as_slice.ensures.value)

pub loop-at-preserved : goal.loop-at-preserved
loop-at-preserved c =
    let within : c.loop-at.at < length c.args.other.now.outs = omega arith in
    let is = c.copy_from_slice.ensures ∙ c.as_slice.ensures.value in
    let tuple = c.copy_from_slice.new.self in
    let read : tuple ≡ slice_index_or c.args.other.now.outs c.loop-at.at tuple
    = subst (λ t. t ≡ slice_index_or c.args.other.now.outs c.loop-at.at t) (sym is) c.index.ensures in
    record {
      frame = c.loop-at.invariant.frame;
      sizes =
          sizes_stay c.loop-at.self.outs c.args.other.now.outs c.loop-at.at tuple within read c.loop-at.invariant.sizes;
      copied =
          more_copied c.loop-at.self.outs c.args.other.now.outs c.loop-at.at tuple within read c.loop-at.invariant.sizes
          c.loop-at.invariant.copied;
    }
