use Rattle.cap_config.proofs.config.allocation.Goals as goal

pub unreachable-requires : goal.unreachable-requires
unreachable-requires c = absurd (cc (c.in_default.ensures.variant.1 c.requires))
