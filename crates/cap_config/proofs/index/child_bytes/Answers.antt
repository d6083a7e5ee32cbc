use Rattle.cap_config.proofs.ChildPaths.{child_put}
use Rattle.cap_config.proofs.index.child_bytes.Goals as goal

pub returns-clause-path : goal.returns-clause-path
returns-clause-path c =
    child_put c.args.path.now c.args.name.now c.as_bytes-parent.result.now c.as_bytes-name.result.now _ _ _ c.as_bytes-parent.ensures.text c.as_bytes-parent.ensures.value c.as_bytes-name.ensures.value c.copy_from_slice.ensures.after c.copy_from_slice-2.ensures.after
