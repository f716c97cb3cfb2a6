pub mod PlanLaws
pub mod SaveLaws
