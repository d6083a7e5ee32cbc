-- Numbers of containers, applications and nodes, each used once; what lives and what has ended.
pub mod AppNumbers
pub mod Balance
pub mod ContainerNumbers
