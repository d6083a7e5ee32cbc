use Rattle.cap_copy.proofs.Prelude.{rules, ◌++◌, ◌∷◌, [], List, ◌≤◌, ap, length, map, subst, sym, ◌∙◌, arith, All, length-map, applications_max, IsPosition, AreKept, HeldApp, AreSeen, SeenApp, asks_of_all, IsCopied, IsCopy, Parts, held_apps_in, nodes_in}
use Rattle.cap_copy.proofs.Fitting.{nodes_of_few, seen_app_of_few, seen_node_of_few, tree_in_snapshot}
use Rattle.cap_copy.proofs.Sights.{few_waiting, placed_all, positions_there}
use Rattle.cap_copy.proofs.copied.ClusterCopy.take.Goals as goal

pub seen_apps-requires : goal.seen_apps-requires
seen_apps-requires g c =
    let few = c.requires.resources in
    let apps = c.args.apps.now in
    let rows = c.args.tree.now in
    let waiting = c.in-Ok.waiting.items in
    let placed = positions_there rows waiting (placed_all rows apps.accounts apps.table.active waiting c.in-Ok.ensures.apps c.in-Ok.ensures.accounts c.requires.placed) in
    let short = subst (λ (rs : List HeldApp). length rs ≤ applications_max) (sym c.deref.ensures.value) (few_waiting apps.table.active waiting applications_max c.in-Ok.ensures.apps c.requires.few) in
    let there = subst (λ (rs : List HeldApp). All (λ r. IsPosition rows r.account.position) rs) (sym c.deref.ensures.value) placed in
    (c.requires.fits.source.tree, (search rules, (omega (arith, few), (omega (arith, few), (c.requires.fits.source, (few, (short, there)))))))

pub copy_of-requires : goal.copy_of-requires
copy_of-requires g c =
    let fits = c.requires.fits.snapshot in
    (c.requires.fits.source.tree, (search (tree_in_snapshot, fits), c.requires.fits.source))

pub invariant_of-result : goal.invariant_of-result
invariant_of-result g c =
    let K = g.row.K in
    let parts : Parts = record { rows = c.args.tree.now; apps = c.args.apps.now; nodes = c.args.nodes.now } in
    let seen = c.in-Ok-seen_apps.copied.0.items in
    let asks = c.in-Ok-seen_apps.copied.1.items in
    let nodes = c.in-Ok-seen_nodes.present.items in
    let skips = c.in-Ok-from_elem.skips.items in
    let tree = c.in-Ok-copy_of.tree in
    let live = c.live_count.result in
    let next = c.next_container.result in
    let sources = c.and.ensures ∙ ap (λ l. l ++ (c.args.apps.now, c.args.nodes.now) ∷ []) c.new.ensures in
    let held = c.in-Ok-seen_apps.ensures.seen.held ∙ c.deref.ensures.value in
    subst (λ (ps : Parts). IsCopied K ps (map (λ (a : SeenApp). a.held) seen) tree seen asks nodes skips live next)
    (sym (λ k. record { rows = c.in-Ok-copy_of.ensures.rows k; apps = held_apps_in (sources k); nodes = nodes_in (sources k) }))
    (record {
      copied = subst (λ ws. IsCopy K parts ws seen asks nodes live next) (sym held)
          (record {
            resources = c.requires.resources;
            few = c.requires.few;
            placed = c.requires.placed;
            rising = c.numbers_rise.ensures;
            numbers = c.numbers_rise-2.ensures.nodes;
            apps_are = c.in-Ok.ensures.apps;
            accounts_are = c.in-Ok.ensures.accounts;
            kept = subst (λ (rs : List HeldApp). All (λ r. AreKept r.app.asks) rs) c.deref.ensures.value c.seen_apps.ensures.kept;
            seen_are = subst (λ (rs : List HeldApp). AreSeen K parts.rows rs asks seen) c.deref.ensures.value c.in-Ok-seen_apps.ensures.seen;
            asks_are = c.in-Ok-seen_apps.ensures.asks ∙ ap (λ (rs : List HeldApp). asks_of_all [] (map (λ r. r.app) rs)) c.deref.ensures.value;
            nodes_are = c.in-Ok-seen_nodes.ensures;
            live_is = c.live_count.ensures.value;
            next_is = c.next_container.ensures;
          });
      rows_are = c.copy_of.ensures.whole;
      none = c.in-Ok-copy_of.ensures.none;
      room =
          (let n = length-map seen (λ (a : SeenApp). a.held) in
          subst (λ n. n ≤ tree.room) (c.len-2.ensures ∙ c.in-Ok.waiting.ok.0 ∙ ap length (sym held) ∙ n) c.in-Ok-copy_of.ensures.room);
      skips_are = sym c.in-Ok-from_elem.skips.ok.0 ∙ c.in-Ok-from_elem.ensures.len ∙ c.len.ensures ∙ c.in-Ok-seen_nodes.present.ok.0;
    })

pub next_container-requires : goal.next_container-requires
next_container-requires g c = nodes_of_few _ c.requires.resources

pub live_count-requires : goal.live_count-requires
live_count-requires g c = nodes_of_few _ c.requires.resources

pub drop-seen-requires-room-T-Destruct : goal.drop-seen-requires-room-T-Destruct
drop-seen-requires-room-T-Destruct g c κs within = seen_app_of_few _ c.requires.resources

pub drop-seen-requires-in_default-room-T-Destruct : goal.drop-seen-requires-in_default-room-T-Destruct
drop-seen-requires-in_default-room-T-Destruct g c κs within = seen_app_of_few _ c.requires.resources

pub drop-seen-requires-in-Err-copy_of-room-T-Destruct : goal.drop-seen-requires-in-Err-copy_of-room-T-Destruct
drop-seen-requires-in-Err-copy_of-room-T-Destruct g c κs within = seen_app_of_few _ c.requires.resources

pub seen_nodes-requires : goal.seen_nodes-requires
seen_nodes-requires g c = (nodes_of_few _ c.requires.resources, seen_node_of_few _ c.requires.resources)

pub numbers_rise-requires-2 : goal.numbers_rise-requires-2
numbers_rise-requires-2 g c = nodes_of_few _ c.requires.resources
